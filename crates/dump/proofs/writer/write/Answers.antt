use mathlib.Core.Path.{◌≡◌, ap, ◌∙◌}
use Prim.Native.Nat.{ℕ, ◌≤◌, min}
use native.Mathlib.Omega.{arith}
use lib.ListN.{length, length-append}
use Rattle.std.proofs.lemmas.Slice.Zip.{zip_turn, zip_end}
use Rattle.text.proofs.Putting.{put-length}
use Rattle.dump.specs.Text as Text
use Rattle.dump.specs.Text.{samples_after, samples_text}
use Rattle.dump.proofs.Window.{past-as, past_next, past-length, put_front, writing-none, writing_more, writing-done, writing-few}
use Rattle.dump.proofs.Samples.{sample-next, samples-end, from_first}
use Rattle.dump.proofs.Length.{header-length}
use borrow.Author.Rules.{rules}
use Rattle.dump.proofs.writer.write.Goals as goal

pub loop-stamp-init : goal.loop-stamp-init
loop-stamp-init c = (search rules, writing-none _ _ _ c.put_header-point.ensures.put.within)

pub loop-stamp-preserved : goal.loop-stamp-preserved
loop-stamp-preserved c =
    let head = c.loop-stamp in
    let sample = c.put_sample-n in
    let stamps = c.args.stamps.now in
    let levels = c.args.levels.now in
    let i = length head.yielded in
    let turn = zip_turn stamps levels head.yielded c.into_iter-stamp-iterator.result head.stamp-iterator c.next.new.self _
    (cc) (cc) head.yielded_by _ c.in-Some.is c.next.ensures.steps in
    let text =
    put_front head.line _ _ _ sample.ensures.put (omega (arith, sample.ensures.level_len_bound, head.invariant.0)) in
    rw (length-append, turn.3 0) (
      put-length _ _ sample.ensures.put ∙ head.invariant.0,
      writing_more _ _ (sample-next stamps levels head.last i turn.0 turn.1)
          (rw (turn.2 0, turn.3 0) at sample.ensures.level_len_bound) head.invariant.1
          (rw (turn.2 0, turn.3 0) at (past-as text c.put-point.ensures)),
    )

pub shape_of-out : goal.shape_of-out
shape_of-out c = past-length c.loop-stamp.invariant.1.past ∙ past-length c.put_header-point.ensures

pub returns : goal.returns
returns c =
    let head = c.loop-stamp in
    let stamps = c.args.stamps.now in
    let levels = c.args.levels.now in
    let i = length head.yielded in
    let all = zip_end stamps levels head.yielded c.into_iter-stamp-iterator.result head.stamp-iterator c.next.new.self _
    (cc) (cc) head.yielded_by c.in-None.is c.next.ensures.steps in
    let past : min (length stamps) (length levels) ≤ i = omega (arith, all) in
    let end = samples-end stamps levels head.last i past in
    let samples : samples_after c.before_first-last.result stamps levels ≡ samples_text stamps levels =
    ap (λ (last : ℕ). samples_after last stamps levels) c.before_first-last.ensures ∙ from_first stamps levels in
    let few = writing-few end head.invariant.1 in record {
      text = past_next c.put_header-point.ensures (past-as samples (writing-done end head.invariant.1));
      bound = omega (
        arith,
        length-append (Text.header) (samples_text stamps levels),
        header-length,
        ap length samples,
        few,
        all,
      );
    }
