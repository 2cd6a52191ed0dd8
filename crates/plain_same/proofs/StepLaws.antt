-- The passes one after the other are the node's one step; and the frame that the plain origin sends is the quick one's.
use Prim.Native.Nat.{ℕ, ◌+◌, ◌-◌, ◌*◌, ◌/◌, ◌%◌, min, ◌≤◌}
use mathlib.Core.Path.{◌≡◌, refl, sym, ap, ap₂, ◌∙◌}
use mathlib.Core.List.{List, [], ◌∷◌, ◌++◌, append_assoc}
use native.Mathlib.Omega.{arith}
use lib.ListN.{length, take, drop, set, length-append, length-drop}
use lib.Seq.{take_at, take-take, drop_at, take-append-le}
use Rattle.coding.specs.Coding.{sample_bits, droppable_bits}
use Rattle.fcs.specs.Fcs.{fcs_octets}
use Rattle.blocks.specs.Blocks.{field}
use Rattle.onward.specs.Onward.{stamp_after, dropped, onward_head, onward_field, framed, onward}
use Rattle.onward.proofs.OnwardLaws.{onward_length}
use Rattle.origin.specs.Burst.{sequence_sent, more_sent}
use Rattle.origin.specs.Send.{made_head, made, send_written}
use Rattle.origin.specs.declared.Step.{Step}
use Rattle.plain_blocks.specs.Figure7.{picked_blocks}
use Rattle.plain_passes.specs.Passes.{voice_field, blocks_dropped, drop_pass, stamp_pass, address_pass, seal_pass, passed}
use Rattle.plain_passes.proofs.PassLaws.{drop_length}
use Rattle.plain_packet.specs.Packet.{plain_header, plain_made}
use Rattle.plain.specs.Send.{plain_sent}
use Rattle.plain_same.proofs.CheckLaws.{check_is}
use Rattle.plain_same.proofs.BlockLaws.{picked_blocks_lem}

-- a frame is its octets 1 to 8 and a rest
by_eight : (P : List ℕ → Type 0) → ((a b c d e f g h : ℕ) (r : List ℕ) → P (a ∷ b ∷ c ∷ d ∷ e ∷ f ∷ g ∷ h ∷ r))
    → (l : List ℕ) → 8 ≤ length l → P l
by_eight P k (a ∷ b ∷ c ∷ d ∷ e ∷ f ∷ g ∷ h ∷ r) n = k a b c d e f g h r
by_eight P k [] n = absurd (omega arith)
by_eight P k (a ∷ []) n = absurd (omega arith)
by_eight P k (a ∷ b ∷ []) n = absurd (omega arith)
by_eight P k (a ∷ b ∷ c ∷ []) n = absurd (omega arith)
by_eight P k (a ∷ b ∷ c ∷ d ∷ []) n = absurd (omega arith)
by_eight P k (a ∷ b ∷ c ∷ d ∷ e ∷ []) n = absurd (omega arith)
by_eight P k (a ∷ b ∷ c ∷ d ∷ e ∷ f ∷ []) n = absurd (omega arith)
by_eight P k (a ∷ b ∷ c ∷ d ∷ e ∷ f ∷ g ∷ []) n = absurd (omega arith)

seal_at : (l t : List ℕ) → length t ≡ 2 → seal_pass (l ++ t) ≡ l ++ fcs_octets (take 8 (l ++ t))
unfolding seal_pass
seal_at l t e =
    let n : length (l ++ t) - 2 ≡ length l = omega (arith, length-append l t) in
    ap₂ (λ (x y : List ℕ). x ++ y) (ap (λ (k : ℕ). take k (l ++ t)) n ∙ take_at l t (length l) refl) (check_is (take 8 (l ++ t)))

-- octets 1 to 8 once the three passes over them are done, with anything after them
heads : (level wait addr a b c d e f g h : ℕ) (r v t : List ℕ)
    → address_pass addr (stamp_pass wait ((set (a ∷ b ∷ c ∷ d ∷ e ∷ f ∷ g ∷ h ∷ []) 4 (e - blocks_dropped level (a ∷ b ∷ c ∷ d ∷ e ∷ f ∷ g ∷ h ∷ r)) ++ v) ++ t))
    ≡ (onward_head level wait addr (a ∷ b ∷ c ∷ d ∷ e ∷ f ∷ g ∷ h ∷ r) ++ v) ++ t
unfolding address_pass stamp_pass blocks_dropped onward_head dropped stamp_after
heads level wait addr a b c d e f g h r v t = refl

take_head : (level wait addr : ℕ) (f v t : List ℕ) → take 8 ((onward_head level wait addr f ++ v) ++ t) ≡ onward_head level wait addr f
unfolding onward_head
take_head level wait addr f v t = refl

kept : (level : ℕ) (f : List ℕ) → take (length f - 10 - 16 * blocks_dropped level f) (voice_field f) ≡ onward_field level f
unfolding onward_field blocks_dropped dropped
kept level f = take-take (length f - 10 - 16 * blocks_dropped level f) (length f - 10) (drop 8 f) (omega arith)

at_eight : (level wait addr a b c d e f g h : ℕ) (r : List ℕ) → 10 ≤ length (a ∷ b ∷ c ∷ d ∷ e ∷ f ∷ g ∷ h ∷ r)
    → passed level wait addr (a ∷ b ∷ c ∷ d ∷ e ∷ f ∷ g ∷ h ∷ r) ≡ onward level wait addr (a ∷ b ∷ c ∷ d ∷ e ∷ f ∷ g ∷ h ∷ r)
unfolding passed drop_pass onward framed
at_eight level wait addr a b c d e f g h r long =
    let l : List ℕ = a ∷ b ∷ c ∷ d ∷ e ∷ f ∷ g ∷ h ∷ r in
    let v : List ℕ = take (length l - 10 - 16 * blocks_dropped level l) (voice_field l) in
    let t : List ℕ = drop (length l - 2) l in
    let head : List ℕ = onward_head level wait addr l in
    ap seal_pass (heads level wait addr a b c d e f g h r v t)
    ∙ seal_at (head ++ v) t (length-drop (length l - 2) l ∙ omega arith)
    ∙ ap₂ (λ (x y : List ℕ). head ++ x ++ fcs_octets y) (kept level l) (take_head level wait addr l v t)

-- on every frame of at least ten octets, taken or not
pub passes_are : (level wait addr : ℕ) (f : List ℕ) → 10 ≤ length f → passed level wait addr f ≡ onward level wait addr f
passes_are level wait addr f long =
    by_eight (λ l. 10 ≤ length l → passed level wait addr l ≡ onward level wait addr l)
    (λ a b c d e f g h r. at_eight level wait addr a b c d e f g h r) f (omega arith) long

-- how long a frame is once its blocks are dropped
pub drop_onward : (level wait addr : ℕ) (f : List ℕ) → 10 ≤ length f → length (drop_pass level f) ≡ length (onward level wait addr f)
unfolding blocks_dropped dropped
drop_onward level wait addr f long = drop_length level f long ∙ sym (onward_length level wait addr f)

fcs_two : (l : List ℕ) → length (fcs_octets l) ≡ 2
unfolding fcs_octets
fcs_two l = refl

-- ---- the origin: its frame still lacks the address and the check, and the step writes both

-- the blocks that a step keeps do not depend on what stands before and behind the voice field
field_of : (level : ℕ) (h v t : List ℕ) → length h ≡ 8 → length t ≡ 2 → onward_field level (h ++ v ++ t) ≡ take (length v - 16 * dropped level (h ++ v ++ t)) v
unfolding onward_field
field_of level h v t eh et =
    let f = h ++ v ++ t in
    let size : length f - 10 ≡ length v = omega (arith, length-append (h ++ v) t, length-append h v) in
    let rest : drop 8 f ≡ v ++ t = ap (drop 8) (append_assoc h v t) ∙ drop_at h (v ++ t) 8 eh in
    ap₂ (λ (m : ℕ) (l : List ℕ). take (m - 16 * dropped level f) l) size rest ∙ take-append-le (length v - 16 * dropped level f) v t (omega arith)

module _ (level wait addr t more seq n : ℕ) (xs : List ℕ) where
  abbrev lacking : List ℕ
  lacking = plain_made t more seq n xs

  abbrev whole : List ℕ
  whole = made addr t more seq n xs

  same_head : onward_head level wait addr lacking ≡ onward_head level wait addr whole
  unfolding onward_head dropped plain_made plain_header made made_head framed
  same_head =
      let first : addr / 128 * 4 + 0 % 4 ≡ addr / 128 * 4 + addr / 128 * 4 % 4 = omega arith in
      let second : addr % 128 * 2 + 1 % 2 ≡ addr % 128 * 2 + (addr % 128 * 2 + 1) % 2 = omega arith in
      ap₂ (λ (x y : ℕ). x ∷ y ∷ 239 ∷ 68 ∷ (droppable_bits t * 16 + droppable_bits t - min ((droppable_bits t * 16 + droppable_bits t) % 4) level) ∷ stamp_after 0 wait ∷ (more * 128 + t) ∷ (seq * 16 + n) ∷ []) first second

  same_field : onward_field level lacking ≡ onward_field level whole
  unfolding dropped plain_made plain_header made made_head framed
  same_field =
      let S = sample_bits t in
      let v = picked_blocks S xs S in
      let head = made_head addr t more seq n in
      field_of level (plain_header t more seq n) v (0 ∷ 0 ∷ []) refl refl
      ∙ ap (λ (l : List ℕ). take (length l - 16 * min ((droppable_bits t * 16 + droppable_bits t) % 4) level) l) (picked_blocks_lem S xs S)
      ∙ sym (field_of level head (field xs S S) (fcs_octets head) refl (fcs_two head))

  lacking_long : 10 ≤ length lacking
  unfolding plain_made plain_header
  lacking_long =
      let v = picked_blocks (sample_bits t) xs (sample_bits t) in
      omega (arith, length-append (plain_header t more seq n ++ v) (0 ∷ 0 ∷ []), length-append (plain_header t more seq n) v)

  made_sent : passed level wait addr lacking ≡ onward level wait addr whole
  unfolding onward framed
  made_sent =
      passes_are level wait addr lacking lacking_long
      ∙ ap₂ (λ (head voice : List ℕ). head ++ voice ++ fcs_octets head) same_head same_field

-- for every step, type, noise, samples, level, wait and address
pub sent_is : (sseq : ℕ) (step : Step) (coding noise : ℕ) (samples : List ℕ) (level wait addr : ℕ)
    → plain_sent sseq step coding noise samples level wait addr ≡ send_written sseq step coding noise samples level wait addr
unfolding plain_sent send_written
sent_is sseq step coding noise samples level wait addr = made_sent level wait addr coding (more_sent step) (sequence_sent step sseq) noise samples
