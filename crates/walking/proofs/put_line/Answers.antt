use Rattle.std.proofs.Common.{◌<◌, length, sym, ap, ◌∙◌, arith}
use Rattle.std.proofs.lemmas.List.Edits.{sets}
use Rattle.walking.proofs.TextLaws.{line_none, ends_then, holds_then}
use Rattle.walking.proofs.put_line.Goals as goal

pub loop-i-preserved : goal.loop-i-preserved
loop-i-preserved c =
    let ns = c.args.numbers.now in
    let l = c.loop-i in
    let q = c.put_number-end in
    let w = c.after_number-after in
    let h : l.i < length ns = omega arith in (
      omega (arith, q.ensures.within),
      ends_then ns l.out q.new.out l.i w.result l.end q.result h w.ensures q.ensures _ l.invariant.1,
      holds_then ns l.out q.new.out l.i w.result l.end q.result h w.ensures q.ensures _ l.invariant.2,
    )

pub returns : goal.returns
returns c =
    let ns = c.args.numbers.now in
    let l = c.loop-i in
    let none = line_none ns l.i (omega arith) in
    record {
      ends = omega (arith, ap length none);
      within = omega arith;
      holds = sym (ap (sets l.out l.end) none) ∙ l.invariant.2;
    }
