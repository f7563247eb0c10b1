-- The limits of a trace.
use Rattle.std.specs.Prelude.{ℕ}

-- a trace has at most this many samples
abbrev pub max_samples : ℕ
max_samples = 4096

-- the largest gap between two stamps that encode draws
abbrev pub max_gap : ℕ
max_gap = 1000

-- the largest stamp, of 32 bits
abbrev pub largest_stamp : ℕ
largest_stamp = 4294967295
