-- The numbers of slots.
-- Main statements: slot-back, one_slot, slot_number-below, slot_number-from.
-- Used by: `slot_number_law`, the lazy DFA and the whole one.
-- Idea: the slots are listed.
use Rattle.determinize_start.proofs.Common.{CustomLineTerminator, LineCR, LineLF, NonWordByte, Text, WordByte}
use Rattle.determinize_start.proofs.Common.{ap, arith, Bool, false, None, refl, Some, sym, true, ℕ, ◌<◌, ◌∙◌, ◌≡◌}
use Rattle.determinize_start.specs.StartSlots.{each_slot, slot_number, slot_of, slot_of_number}
use Rattle.determinize_start.specs.declared.start.Start.{Start as Kind}
use Rattle.determinize_start.specs.declared.start.StartSlot.{StartSlot}
use Rattle.ordered_reach.proofs.Cases.{some_injective}
use Rattle.std.proofs.Common.{[], List, slice_get, suc, zero, ◌+◌, ◌∷◌}
use Rattle.std.proofs.lemmas.Option.{slice_get_within}

each-back : (anchored : Bool) (k : Kind)
    → slot_of_number (slot_number (slot_of anchored k)) ≡ Some (slot_of anchored k)
each-back true NonWordByte = refl
each-back true WordByte = refl
each-back true Text = refl
each-back true LineLF = refl
each-back true LineCR = refl
each-back true CustomLineTerminator = refl
each-back false NonWordByte = refl
each-back false WordByte = refl
each-back false Text = refl
each-back false LineLF = refl
each-back false LineCR = refl
each-back false CustomLineTerminator = refl

-- the number of a slot gives the slot
pub slot-back : (s : StartSlot) → slot_of_number (slot_number s) ≡ Some s
slot-back s = each-back s.is_anchored s.kind

-- slots with one number are one
pub one_slot : (s t : StartSlot) → slot_number s ≡ slot_number t → s ≡ t
one_slot s t e = some_injective s t (sym (slot-back s) ∙ ap (λ n. slot_of_number n) e ∙ slot-back t)

-- the numbers are below 12
pub slot_number-below : (s : StartSlot) → slot_number s < 12
slot_number-below s = slice_get_within each_slot (slot_number s) s (slot-back s)

-- slots whose numbers are counted from k on
abbrev AreCounted : ℕ → List StartSlot → Type 0
AreCounted k [] = Unit {0}
AreCounted k (s ∷ ss) = (slot_number s ≡ k) × AreCounted (suc k) ss

counted : (k : ℕ) (ss : List StartSlot) → AreCounted k ss → (n : ℕ) (s : StartSlot) → slice_get ss n ≡ Some s
    → slot_number s ≡ k + n
counted k [] are n s e = let none : None ≡ Some s = e in absurd (cc)
counted k (x ∷ xs) are zero s e = ap (λ t. slot_number t) (some_injective s x (sym e)) ∙ are.0 ∙ omega arith
counted k (x ∷ xs) are (suc n) s e = counted (suc k) xs are.1 n s e ∙ omega arith

-- the slot of a number has this number
pub slot_number-from : (n : ℕ) (s : StartSlot) → slot_of_number n ≡ Some s → slot_number s ≡ n
slot_number-from n s e =
    counted 0 each_slot
    (refl, (refl, (refl, (refl, (refl, (refl, (refl, (refl, (refl, (refl, (refl, (refl, tt)))))))))))) n s e
    ∙ omega arith
