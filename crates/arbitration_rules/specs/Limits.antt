-- The limits of an arbitration: it takes up to sixteen messages (01: plans) of up to 64 bytes each (02: Ask 6).
use Rattle.std.specs.Prelude.{ℕ}

abbrev pub max_masters : ℕ
max_masters = 16

abbrev pub max_length : ℕ
max_length = 64
