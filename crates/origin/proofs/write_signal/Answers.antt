use mathlib.Core.Path.{sym}
use native.Mathlib.Omega.{arith}
use lib.ListN.{length}
use Rattle.origin.specs.Signal.{signal_head}
use Rattle.origin.proofs.SendLaws.{inside_low}
use Rattle.origin.proofs.SignalLaws.{SignalTaken, signal_taken, signal_length, signal_eight, signal_in}
use Rattle.origin.proofs.write_signal.Goals as goal

pub head-made-requires : goal.head-made-requires
head-made-requires c =
    let known : SignalTaken c.args.bits c.args.na c.args.wait c.args.address (length c.args.out.now) =
    signal_taken c.args.bits c.args.na c.args.wait c.args.address (length c.args.out.now) c.requires.0 in
    let s = c.before in
    inside_low s.args.address (known).inside

pub put_head-requires : goal.put_head-requires
unfolding signal_head
put_head-requires c =
    let known : SignalTaken c.args.bits c.args.na c.args.wait c.args.address (length c.args.out.now) =
    signal_taken c.args.bits c.args.na c.args.wait c.args.address (length c.args.out.now) c.requires.0 in
    let s = c.before in
    let k = known in
    let h = c.head-made in
    (signal_eight s.args.bits s.args.na s.args.wait s.args.address h.result h.ensures, s.requires.1, inside_low s.args.address k.inside, omega arith)

pub seal-requires : goal.seal-requires
seal-requires c =
    let known : SignalTaken c.args.bits c.args.na c.args.wait c.args.address (length c.args.out.now) =
    signal_taken c.args.bits c.args.na c.args.wait c.args.address (length c.args.out.now) c.requires.0 in
    let k = known in
    omega arith

pub returns : goal.returns
unfolding signal_head
returns c =
    let a = c.args in
    let m = c.head-made in
    let h = c.put_head in
    let q = c.seal in
    (sym (signal_length a.bits a.na a.wait a.address), signal_in a.bits a.na a.wait a.address a.out.now m.result h.new.out q.new.out m.ensures h.ensures q.ensures)
