-- `octet_of` meets its contract: the number of the bits passed, from the highest.
use Rattle.std.proofs.Common.{◌≡◌, ℕ, ◌+◌, ◌*◌, ◌≤◌, List, [], ◌∷◌, ◌++◌, refl, sym, ap, ◌∙◌, arith, append-nil}
use lib.Seq.{append_snoc}
use Rattle.std.specs.Slice.Iter.{iter_rest}
use Rattle.std.specs.Iterator.Adapters.{rev_source}
use Rattle.plain_check.specs.Bits.{number}
use Rattle.plain_check.proofs.BitLaws.{number_last}
use Rattle.plain_check.proofs.octet_of.Goals as goal

pub loop-bit-init : goal.loop-bit-init
unfolding number
loop-bit-init c =
    let r = c.rev-bit-items in
    (tt, tt, [], append-nil _ ∙ ap (λ s. iter_rest (rev_source s)) c.into_iter-bit-iterator.ensures.into_iter_gives ∙ ap iter_rest r.ensures.source ∙ c.iter.ensures.rest, refl)

-- one bit more, and it is still a part of all of them
passed : (bits rest more done : List ℕ) (bit octet : ℕ) → rest ++ done ≡ bits → octet ≡ number done → rest ≡ more ++ bit ∷ []
    → (more ++ bit ∷ done ≡ bits) × (bit + 2 * octet ≡ number (bit ∷ done)) × (bit + 2 * octet ≤ number bits)
unfolding number
passed bits rest more done bit octet e n s =
    let all : more ++ bit ∷ done ≡ bits = sym (append_snoc more bit done) ∙ ap (λ (l : List ℕ). l ++ done) (sym s) ∙ e in
    let k : bit + 2 * octet ≡ number (bit ∷ done) = ap (λ (x : ℕ). bit + 2 * x) n in
    (all, k, omega (arith, k, number_last more (bit ∷ done), ap number all))

pub overflow_mul-octet : goal.overflow_mul-octet
overflow_mul-octet c =
    let i = c.loop-bit.invariant in
    omega (arith, (passed c.args.bits.now _ _ i.2 c.in-Some.bit.now c.loop-bit.octet i.3 i.4 c.in-Some.ensures.steps).2, c.requires.1)

pub overflow_add-octet : goal.overflow_add-octet
overflow_add-octet c =
    let i = c.loop-bit.invariant in
    omega (arith, (passed c.args.bits.now _ _ i.2 c.in-Some.bit.now c.loop-bit.octet i.3 i.4 c.in-Some.ensures.steps).2, c.requires.1)

pub loop-bit-preserved : goal.loop-bit-preserved
loop-bit-preserved c =
    let i = c.loop-bit.invariant in
    let p = passed c.args.bits.now _ _ i.2 c.in-Some.bit.now c.loop-bit.octet i.3 i.4 c.in-Some.ensures.steps in
    (tt, tt, c.in-Some.bit.now ∷ i.2, p.0, p.1)
