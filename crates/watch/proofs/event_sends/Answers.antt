use Rattle.std.proofs.Common.{◌+◌, leb, ap, ◌∙◌}
use Rattle.watch.proofs.TableLaws.{due_sends}
use Rattle.watch.specs.Table.{table}
use Rattle.watch.specs.declared.Terminating.TheVariants.{Norm as NORM}
use Rattle.watch.specs.declared.Originating.TheVariants.{Norm as NORMAL}
use Rattle.watch.specs.declared.Coming.{Coming}
use Rattle.watch.proofs.event_sends.Goals as goal

pub returns-in-Nothing : goal.returns-in-Nothing
returns-in-Nothing c =
    let a = c.args in
    rw c.in-Nothing.is
    (c.sends_next.ensures NORMAL NORM ∙ ap (λ (x : Coming). (table NORMAL NORM x).sends) c.when_past.ensures ∙ due_sends NORMAL NORM (leb (a.lastsent + a.refresh) a.clock))
