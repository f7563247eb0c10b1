-- `dump::lines::put_sample` meets its contract.
use native.Mathlib.Omega.{arith}
use Rattle.text.proofs.Putting.{put_as, put_next, put-none}
use Rattle.dump.proofs.Length.{sample-length}
use Rattle.dump.proofs.Samples.{unchanged-text, changed-text}
use Rattle.dump.proofs.lines.put_sample.Goals as goal

pub returns-then-scl-scl_was : goal.returns-then-scl-scl_was
returns-then-scl-scl_was c =
    let none =
    unchanged-text c.args.last c.args.stamp c.args.level _ _ _ _ c.scl-scl.ensures
    c.sda-sda.ensures c.scl-scl_was.ensures c.sda-sda_was.ensures c.if-scl-scl_was.true in
    record { put = put_as _ _ none (put-none _ _ _ (omega arith)); level_len_bound = sample-length _ _ _ (omega arith) }

pub returns : goal.returns
returns c =
    let lines =
    changed-text c.args.last c.args.stamp c.args.level _ _ _ _ c.scl-scl.ensures
    c.sda-sda.ensures c.scl-scl_was.ensures c.sda-sda_was.ensures c.if-scl-scl_was.false in record {
      put = put_as _ _ lines
          (put_next _ _ (put_next _ _ c.put_stamp-past_stamp.ensures c.put_change-past_scl.ensures) c.put_change.ensures);
      level_len_bound = sample-length _ _ _ (omega arith);
    }
