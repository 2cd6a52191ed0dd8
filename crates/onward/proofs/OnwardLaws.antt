-- Laws of what is sent on: how long it is, that two steps are one, and that it passes every check again.
use Rattle.std.proofs.Common.{◌≡◌, ℕ, ◌+◌, ◌-◌, ◌*◌, ◌/◌, ◌%◌, ◌≤◌, min, Bool, true, false, cond, List, ◌++◌, length, take, drop, sym, refl, ap, ◌∙◌, ap₂, arith, length-append, length-drop, length-take, take-take, drop-drop, take_at, drop_at}
use lib.Seq.{take-append-le, take-length}
use Rattle.octets.specs.Octets.{octet}
use Rattle.refusals.specs.Refusals.{address_bad}
use Rattle.refusals.proofs.RefusalLaws.{in_range}
use Rattle.fcs.specs.Fcs.{fcs_octets, fcs_good}
use Rattle.fcs.proofs.SealLaws.{sealed_good}
use Rattle.coding.specs.Coding.{sample_bits, droppable_bits, frame_length, reserved}
use Rattle.coding.proofs.CodingLaws.{d_le_s}
use Rattle.frame.specs.Fields.{is_voice, field_m, field_c, stamp, coding, covered}
use Rattle.frame.proofs.FrameLaws.{Passes}
use Rattle.onward.specs.Onward.{stamp_after, dropped, onward_head, onward_field, framed, onward}

-- ---- the stamp

pub stamp_two : (old w₁ w₂ : ℕ) → stamp_after (stamp_after old w₁) w₂ ≡ stamp_after old (w₁ + w₂)
unfolding stamp_after
stamp_two old w₁ w₂ = omega arith

-- a wait above 200 does what 200 does
pub stamp_capped : (old w : ℕ) → stamp_after old w ≡ stamp_after old (min 200 w)
unfolding stamp_after
stamp_capped old w = omega arith

pub stamp_legal : (old w : ℕ) → stamp_after old w ≤ 200
unfolding stamp_after
stamp_legal old w = omega arith

-- ---- lengths

pub framed_length : (h v : List ℕ) → length (framed h v) ≡ length h + length v + 2
unfolding framed fcs_octets
framed_length h v = simp length-append (omega arith)

module _ (l w a : ℕ) (f : List ℕ) where
  -- it is the end that is cut
  field_is : onward_field l f ≡ take (length f - 10 - 16 * dropped l f) (drop 8 f)
  unfolding onward_field
  field_is = refl

  pub field_length : length (onward_field l f) ≡ length f - 10 - 16 * dropped l f
  unfolding onward_field
  field_length = simp (length-take, length-drop) (omega arith)

  pub onward_length : length (onward l w a f) ≡ 10 + (length f - 10 - 16 * dropped l f)
  unfolding onward onward_head
  onward_length = framed_length (onward_head l w a f) (onward_field l f) ∙ omega (arith, field_length)

-- ---- two steps are one: the levels and the waits added, and the second's address

module _ (l₁ w₁ a₁ l₂ w₂ a₂ : ℕ) (f : List ℕ) where
  dropped_two : dropped l₂ (onward l₁ w₁ a₁ f) + dropped l₁ f ≡ dropped (l₁ + l₂) f
  unfolding onward onward_head dropped framed
  dropped_two = omega arith

  head_two : onward_head l₂ w₂ a₂ (onward l₁ w₁ a₁ f) ≡ onward_head (l₁ + l₂) (w₁ + w₂) a₂ f
  unfolding onward onward_head dropped framed
  head_two =
      let e₁ : a₂ / 128 * 4 + (a₁ / 128 * 4 + octet 1 f % 4) % 4 ≡ a₂ / 128 * 4 + octet 1 f % 4 = omega arith in
      let e₂ : a₂ % 128 * 2 + (a₁ % 128 * 2 + octet 2 f % 2) % 2 ≡ a₂ % 128 * 2 + octet 2 f % 2 = omega arith in
      let e₅ : octet 5 f - min (octet 5 f % 4) l₁ - min ((octet 5 f - min (octet 5 f % 4) l₁) % 4) l₂ ≡ octet 5 f - min (octet 5 f % 4) (l₁ + l₂) = omega arith in
      let e₆ = stamp_two (octet 6 f) w₁ w₂ in
      cc

  field_two : onward_field l₂ (onward l₁ w₁ a₁ f) ≡ onward_field (l₁ + l₂) f
  unfolding onward onward_head framed
  field_two =
      let n₁ : ℕ = length f - 10 - 16 * dropped l₁ f in
      let n₂ : ℕ = length (onward l₁ w₁ a₁ f) - 10 - 16 * dropped l₂ (onward l₁ w₁ a₁ f) in
      let n : ℕ = length f - 10 - 16 * dropped (l₁ + l₂) f in
      let e : n₂ ≡ n = omega (arith, onward_length l₁ w₁ a₁ f, dropped_two) in
      let le : n₂ ≤ length (onward_field l₁ f) = omega (arith, onward_length l₁ w₁ a₁ f, field_length l₁ w₁ a₁ f) in
      let le₁ : n₂ ≤ n₁ = omega (arith, onward_length l₁ w₁ a₁ f) in
      field_is l₂ w₂ a₂ (onward l₁ w₁ a₁ f)
      ∙ take-append-le n₂ (onward_field l₁ f) (fcs_octets (onward_head l₁ w₁ a₁ f)) le
      ∙ ap (take n₂) (field_is l₁ w₁ a₁ f)
      ∙ take-take n₂ n₁ (drop 8 f) le₁
      ∙ ap (λ (k : ℕ). take k (drop 8 f)) e
      ∙ sym (field_is (l₁ + l₂) w₁ a₁ f)

  pub onward_two : onward l₂ w₂ a₂ (onward l₁ w₁ a₁ f) ≡ onward (l₁ + l₂) (w₁ + w₂) a₂ f
  unfolding onward framed
  onward_two = simp (onward, head_two, field_two)

-- a level above 3 does what 3 does, and a wait above 200 what 200 does
pub onward_capped : (l w a : ℕ) (f : List ℕ) → onward l w a f ≡ onward (min 3 l) (min 200 w) a f
unfolding onward onward_head onward_field dropped framed
onward_capped l w a f =
    let e₅ : min (octet 5 f % 4) l ≡ min (octet 5 f % 4) (min 3 l) = omega arith in
    let e₆ = stamp_capped (octet 6 f) w in
    cc

-- ---- what is sent on passes every check again

-- octet 5 with the lesser of its C and l taken away: C falls by that, and the bits above stay
c_of : (x l : ℕ) → (x - min (x % 4) l) % 4 ≡ x % 4 - min (x % 4) l
c_of x l = omega arith

quarter_of : (x l : ℕ) → (x - min (x % 4) l) / 4 ≡ x / 4
quarter_of x l = omega arith

m_of : (x l : ℕ) → (x - min (x % 4) l) / 16 ≡ x / 16
m_of x l = omega (arith, quarter_of x l)

-- the length that is right once d more blocks are dropped
sizes_k : (S x d n : ℕ) → n ≡ 16 * (S - x) + 10 → 10 + (n - 10 - 16 * d) ≡ 16 * (S - (x + d)) + 10
sizes_k S x d n e = omega arith

less_less : (M C d : ℕ) → C ≤ M → d ≤ C → M - (C - d) ≡ (M - C) + d
less_less M C d cm dc = omega arith

sizes : (S M C d n : ℕ) → C ≤ M → d ≤ C → n ≡ 16 * (S - (M - C)) + 10 → 10 + (n - 10 - 16 * d) ≡ 16 * (S - (M - (C - d))) + 10
sizes S M C d n cm dc e = rw (less_less M C d cm dc) (sizes_k S (M - C) d n e)

-- a frame that is sealed over its octets 1 to 8 has a good check
pub framed_good : (h v : List ℕ) → length h ≡ 8 → fcs_good 8 (framed h v) ≡ true
unfolding framed
framed_good h v e =
    let t : take 8 (h ++ v) ≡ h = take-append-le 8 h v (omega arith) ∙ ap (λ (k : ℕ). take k h) (sym e) ∙ take-length h in
    rw t at (sealed_good 8 (h ++ v) (simp length-append (omega arith)))

module _ (l w a : ℕ) (f : List ℕ) where
  pub onward_C : field_c (onward l w a f) ≡ field_c f - dropped l f
  unfolding onward onward_head dropped framed
  onward_C = c_of (octet 5 f) l

  pub onward_M : field_m (onward l w a f) ≡ field_m f
  unfolding onward onward_head dropped framed
  onward_M = ap (λ (q : ℕ). q % 4) (m_of (octet 5 f) l)

module _ (l w a : ℕ) (f : List ℕ) (p : Passes f) where
  -- the blocks that are dropped are there
  pub kept : 10 + 16 * dropped l f ≤ length f
  unfolding dropped
  kept = go (is_voice f) refl
    where
      small : (S M C d n : ℕ) → M ≤ S → C ≤ M → d ≤ C → n ≡ 16 * (S - (M - C)) + 10 → 10 + 16 * d ≤ n
      small S M C d n ms cm dc e = omega arith

      go : (v : Bool) → is_voice f ≡ v → 10 + 16 * min (field_c f) l ≤ length f
      go true e =
          let m : field_m f ≡ droppable_bits (coding f) = p.laid.m_is_d ∙ rw e in
          let r : reserved (coding f) ≡ false = rw e at p.coded in
          small (sample_bits (coding f)) (field_m f) (field_c f) (min (field_c f) l) (length f)
          (omega (arith, d_le_s (coding f))) p.laid.c_le_m (omega arith) (p.laid.size ∙ rw (e, r))
      go false e =
          let m : field_m f ≡ 0 = p.laid.m_is_d ∙ rw e in
          omega (arith, p.linked.long, p.laid.c_le_m)

  size_onward : (v : Bool) → is_voice f ≡ v
      → length (onward l w a f) ≡ cond v (frame_length (coding f) (field_m f - (field_c f - dropped l f))) 10
  unfolding dropped
  size_onward true e =
      let r : reserved (coding f) ≡ false = rw e at p.coded in
      onward_length l w a f
      ∙ sizes (sample_bits (coding f)) (field_m f) (field_c f) (min (field_c f) l) (length f) p.laid.c_le_m (omega arith) (p.laid.size ∙ rw (e, r))
      ∙ sym (rw r)
  size_onward false e =
      let s : length f ≡ 10 = p.laid.size ∙ rw e in
      onward_length l w a f ∙ rw s (omega arith)

  pub covered_onward : (v : Bool) → is_voice f ≡ v → covered (onward l w a f) ≡ 8
  unfolding onward onward_head framed
  covered_onward true e = rw e
  covered_onward false e = rw e (omega (arith, size_onward false e))

  -- what is sent on to an address in range is taken by the next
  pub closed : address_bad a ≡ false → Passes (onward l w a f)
  unfolding onward onward_head framed
  closed h =
      let r = in_range a h in
      let q = p.linked in
      record {
        linked = record {
          long = omega (arith, onward_length l w a f);
          short = omega (arith, onward_length l w a f, q.short);
          bit1 = omega (arith, q.bit1);
          bit2 = omega (arith, q.bit2);
          addr_low = omega (arith, q.bit1, q.bit2);
          addr_high = omega (arith, q.bit1, q.bit2);
          known = q.known;
          command = omega (arith, q.command);
          poll = q.poll;
          check = ap (λ (n : ℕ). fcs_good n (onward l w a f)) (covered_onward _ refl) ∙ framed_good (onward_head l w a f) (onward_field l f) refl;
          ident = q.ident;
        };
        coded = p.coded;
        laid = record {
          m_is_d = onward_M l w a f ∙ p.laid.m_is_d;
          c_le_m = omega (arith, onward_M l w a f, onward_C l w a f, p.laid.c_le_m);
          size = size_onward _ refl ∙ simp (onward_C l w a f, onward_M l w a f);
          stamped = stamp_legal (stamp f) w;
        };
      }

-- ---- what the writers leave in their buffer

-- x begins with T, and goes on as O does; two octets are put behind T, or the check of octets 1 to 8
pub put_behind : (T O x y c : List ℕ) (at : ℕ) → length T ≡ at → x ≡ T ++ drop at O → y ≡ take at x ++ c ++ drop (at + 2) x
    → y ≡ (T ++ c) ++ drop (at + 2) O
put_behind T O x y c at lT ex ey =
    let front : take at x ≡ T = ap (take at) ex ∙ take_at T (drop at O) at lT in
    let back : drop (at + 2) x ≡ drop (at + 2) O =
    sym (drop-drop 2 at x) ∙ ap (λ (l : List ℕ). drop 2 (drop at l)) ex ∙ ap (drop 2) (drop_at T (drop at O) at lT) ∙ drop-drop 2 at O in
    ey ∙ ap₂ (λ (l m : List ℕ). (l ++ c) ++ m) front back

pub sealed_behind : (T O x y : List ℕ) (at : ℕ) → length T ≡ at → 8 ≤ at → x ≡ T ++ drop at O
    → y ≡ take at x ++ fcs_octets (take 8 x) ++ drop (at + 2) x
    → y ≡ (T ++ fcs_octets (take 8 T)) ++ drop (at + 2) O
sealed_behind T O x y at lT long ex ey =
    put_behind T O x y (fcs_octets (take 8 x)) at lT ex ey
    ∙ ap (λ (l : List ℕ). (T ++ fcs_octets l) ++ drop (at + 2) O) (ap (take 8) ex ∙ take-append-le 8 T (drop at O) (omega arith))
