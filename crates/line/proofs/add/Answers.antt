use borrow.Author.Rules.{rules}
use Rattle.line.proofs.AddLaws.{add_refused}
use Rattle.line.proofs.add.Goals as goal

-- refused, the line is what its bits are
pub returns-in_err-add_refusal-clause-buffer : goal.returns-in_err-add_refusal-clause-buffer
returns-in_err-add_refusal-clause-buffer c =
    let a = c.args in
    add_refused a.line.now a.frame.now a.count c.in_err-add_refusal.field-0.0 (search rules) c.in_err-add_refusal.ensures
