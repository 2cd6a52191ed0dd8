-- A node passes ignored bits on as they came: of a frame with those bits changed, what is sent on is what is sent on of the frame itself, with the same bits and its check made afresh.
use Rattle.std.proofs.Common.{◌≡◌, ℕ, ◌+◌, ◌-◌, ◌*◌, ◌/◌, ◌%◌, ◌≤◌, min, List, [], ◌∷◌, ◌++◌, length, take, drop, sym, refl, ap, ◌∙◌, ap₂, arith, take-append-drop, take-take, take_at}
use Rattle.octets.specs.Octets.{octet}
use Rattle.fcs.specs.Fcs.{fcs_octets}
use Rattle.frame.specs.Fields.{field_m, field_c, stamp}
use Rattle.frame.specs.Ignored.{octet5_with, octet7_with, octet8_with, ignored_from, with_ignored}
use Rattle.frame.proofs.FrameLaws.{Passes}
use Rattle.frame.proofs.IgnoredLaws.{same_c, same_field, same_length}
use Rattle.onward.specs.Onward.{stamp_after, dropped, onward_head, onward_field, framed, onward}
use Rattle.onward.proofs.OnwardLaws.{field_length, onward_length, onward_C, onward_M, covered_onward}

-- octet 5: C falls by what is dropped, and the bits beside it stay
less_of : (x c l : ℕ) → x + c - min c l ≡ x + (c - min c l)
less_of x c l = omega arith

module _ (g f : List ℕ) (l w a : ℕ) where
  same_dropped : dropped l (with_ignored g f) ≡ dropped l f
  unfolding dropped
  same_dropped = ap (λ (c : ℕ). min c l) (same_c g f)

  fifth_ignores : octet5_with g f - dropped l (with_ignored g f) ≡ octet5_with g (onward l w a f)
  unfolding dropped
  fifth_ignores =
      let high : ℕ = octet 5 g / 64 % 4 * 64 in
      let low : ℕ = octet 5 g / 4 % 4 * 4 in
      ap (λ (d : ℕ). octet5_with g f - d) same_dropped
      ∙ less_of (high + field_m f * 16 + low) (field_c f) l
      ∙ sym (ap₂ (λ (m c : ℕ). high + m * 16 + low + c) (onward_M l w a f) (onward_C l w a f))

  head_ignores : onward_head l w a (with_ignored g f) ≡ take 8 (ignored_from g (onward l w a f))
  unfolding onward_head onward framed with_ignored ignored_from
  head_ignores =
      ap (λ (x : ℕ). (a / 128 * 4 + octet 1 f % 4) ∷ (a % 128 * 2 + octet 2 f % 2) ∷ octet 3 f ∷ octet 4 f ∷ x ∷ stamp_after (stamp f) w ∷ octet7_with g f ∷ octet8_with g f ∷ [])
      fifth_ignores

  -- what is sent on up to its check: those octets, and the voice field that is left
  parts : ignored_from g (onward l w a f) ≡ take 8 (ignored_from g (onward l w a f)) ++ onward_field l f
  unfolding ignored_from onward_head onward framed
  parts =
      let O : List ℕ = onward l w a f in
      let size : length (onward_field l f) ≡ length O - 10 = omega (arith, field_length l w a f, onward_length l w a f) in
      sym (take-append-drop 8 (ignored_from g O))
      ∙ ap (λ (v : List ℕ). take 8 (ignored_from g O) ++ v) (take_at (onward_field l f) (fcs_octets (onward_head l w a f)) (length O - 10) size)

  module _ (long : 10 ≤ length f) where
    pub same_onward_length : length (onward l w a (with_ignored g f)) ≡ length (onward l w a f)
    same_onward_length =
        onward_length l w a (with_ignored g f)
        ∙ ap₂ (λ (n d : ℕ). 10 + (n - 10 - 16 * d)) (same_length g f long) same_dropped
        ∙ sym (onward_length l w a f)

    field_ignores : onward_field l (with_ignored g f) ≡ onward_field l f
    unfolding onward_field
    field_ignores =
        let F : List ℕ = with_ignored g f in
        let n : ℕ = length f - 10 - 16 * dropped l f in
        let le : n ≤ length f - 10 = omega arith in
        ap₂ (λ (k d : ℕ). take (k - 10 - 16 * d) (drop 8 F)) (same_length g f long) same_dropped
        ∙ sym (take-take n (length f - 10) (drop 8 F) le)
        ∙ ap (take n) (same_field g f)
        ∙ take-take n (length f - 10) (drop 8 f) le

pub onward_ignores : (g f : List ℕ) (l w a : ℕ) → Passes f → onward l w a (with_ignored g f) ≡ with_ignored g (onward l w a f)
unfolding onward framed with_ignored
onward_ignores g f l w a p =
    let I : List ℕ = ignored_from g (onward l w a f) in
    ap₂ framed (head_ignores g f l w a) (field_ignores g f l w a p.linked.long)
    ∙ ap (λ (v : List ℕ). v ++ fcs_octets (take 8 I)) (sym (parts g f l w a))
    ∙ ap (λ (n : ℕ). I ++ fcs_octets (take n I)) (sym (covered_onward l w a f p _ refl))
