use Rattle.std.proofs.Common.{ℕ, ◌+◌, List, [], ◌∷◌, take, drop, sym, ◌∙◌, arith, append_assoc}
use Rattle.std.proofs.lemmas.List.Edits.{sets-eq}
use borrow.Rule.Slice.PartMut.{Post-is}
use Rattle.walking.specs.Text.{stop_line}
use Rattle.walking.proofs.TextLaws.{put_text, put_append}
use Rattle.walking.proofs.put_stop.Goals as goal

pub returns : goal.returns
unfolding stop_line
returns c =
    let q = c.put_number-end in
    let e = q.result in
    let x = q.new.out in
    let stop : List ℕ = 115 ∷ 116 ∷ 111 ∷ 112 ∷ 10 ∷ [] in
    let p = put_append {room = 26} q.ensures (put_text stop e x) (omega arith) in
    record {
      ends = p.ends;
      within = p.within;
      holds = rw (c.copy_from_slice.ensures.after, Post-is e (e + 5) x (omega arith)) (sym (append_assoc (take e x) stop (drop (e + 5) x)) ∙ sym (sets-eq stop x e (omega arith)) ∙ p.holds);
    }
