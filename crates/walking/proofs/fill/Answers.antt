use Prim.Native.Nat.{◌-◌}
use mathlib.Core.Path.{◌≡◌, refl}
use mathlib.Core.List.{◌++◌}
use native.Mathlib.Nat.{le_refl}
use native.Mathlib.Omega.{arith}
use lib.ListN.{take, drop}
use lib.Seq.{take-take}
use borrow.Author.Rules.{rules}
use Rattle.walking.proofs.StreamLaws.{read_within, filled_front}
use Rattle.walking.proofs.fill.Goals as goal

pub returns-then-flow-have : goal.returns-then-flow-have
returns-then-flow-have g c =
    let a = c.args in
    record {
      from = search rules;
      have = search rules;
      state = refl;
      end = refl;
      going = refl;
      waits = take-take (a.flow.have - a.flow.from) (a.flow.have - a.flow.from) (drop a.flow.from a.buffer.now) (le_refl (a.flow.have - a.flow.from));
    }

pub returns : goal.returns
returns g c =
    let a = c.args in
    let moved : c.copy_within.new.self ≡ take (a.flow.have - a.flow.from) (drop a.flow.from a.buffer.now) ++ drop (a.flow.have - a.flow.from) a.buffer.now = search rules in
    record {
      from = search rules;
      have = omega (arith, read_within c.read.result c.read.new.buf c.read.ensures.bound);
      state = refl;
      end = refl;
      going = refl;
      waits = filled_front a.buffer.now c.copy_within.new.self c.read.new.buf a.flow.from a.flow.have c.unwrap_or-more.result (omega arith) (omega arith) moved;
    }
