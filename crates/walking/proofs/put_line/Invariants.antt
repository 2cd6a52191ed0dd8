use Rattle.std.proofs.Common.{◌+◌, ◌*◌, ◌≤◌, ◌≡◌, length, drop}
use Rattle.std.proofs.lemmas.List.Edits.{sets}
use Rattle.walking.specs.Text.{line}
use Rattle.walking.proofs.put_line.Given as goal

abbrev pub invariant-loop-i : goal.invariant-loop-i
invariant-loop-i l =
    (l.end ≤ l.at + 21 * l.i)
    × (l.end + length (line (drop l.i l.numbers)) ≡ l.at + length (line l.numbers))
    × (sets l.out l.end (line (drop l.i l.numbers)) ≡ sets l.initial.out l.at (line l.numbers))
