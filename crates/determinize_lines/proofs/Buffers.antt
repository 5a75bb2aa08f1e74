-- The flags of one byte, and the parts of a buffer.
-- Main statements: one_member, both_parts, front, last_of_front, part_of_rest, in_part.
-- Used by: `set_of` and the calls of `Blocks` and `Lines`.
-- Idea: the block and what follows it are the first bytes of the buffer.
use Rattle.std.specs.List.{slice_range}
use Rattle.std.specs.Prelude.{◌==◌, min, slice_get, slice_index}
use Rattle.determinize_core.proofs.Common.{ap, arith, Bool, by_cases, by_test, drop, eq-eqb, eqb-true, false, false≢true, get_or, length, length-take, List, refl, slice_get-get_or, Some, sym, take, take_all, true, ℕ, ◌+◌, ◌-◌, ◌++◌, ◌<◌, ◌∙◌, ◌≡◌, ◌≤◌}
use Rattle.std.proofs.Common.{set}
use Rattle.std.proofs.Math.Seq.{take-add}
use Rattle.std.proofs.lemmas.Bool.{cases_lt}
use Rattle.determinize_nfa.proofs.runs.Mirrors.{slice_get-take}
use Rattle.determinize_nfa.proofs.runs.Shifts.{slice_get-drop}
use Rattle.std.proofs.lemmas.List.{drop-drop, get_or-set_other, get_or-set_same, take-take}
use Rattle.std.proofs.lemmas.Option.{slice_get_past}

-- where no other flag is set, the byte of the flag that is set is the only member
pub one_member : (flags : List Bool) (x b : ℕ) → x < length flags → get_or flags b false ≡ false
    → get_or (set flags x true) b false ≡ (b == x)
one_member flags x b low none = by_test (b == x)
    (λ e. let same : b ≡ x = eqb-true b x e in rw (e, same) (get_or-set_same flags x true false low))
    (λ e. rw e (get_or-set_other flags x b true false (λ s. false≢true (sym e ∙ eq-eqb b x s)) ∙ none))

-- the first bytes of a buffer, and those that follow
pub both_parts : {X : Type 0} (xs : List X) (a b : ℕ) → a ≤ b → take a xs ++ slice_range xs a b ≡ take b xs
both_parts xs a b l =
    let sum : a + (b - a) ≡ b = omega arith in
    sym (take-add a (b - a) xs) ∙ ap (λ n. take n xs) sum

pub front : (xs : List ℕ) (a b most n : ℕ) → a ≤ b → n ≡ min b most
    → take n xs ≡ take most (take a xs ++ slice_range xs a b)
front xs a b most n l is = rw (both_parts xs a b l) (by_cases (cases_lt most b)
    (λ less. let same : n ≡ most = omega arith in rw same (sym (take-take most b xs (omega arith))))
    (λ all. let same : n ≡ b = omega arith in
    rw same (sym (take_all most (take b xs) (omega (arith, length-take b xs))))))

-- the last of the first elements
pub last_of_front : (xs : List ℕ) (last : ℕ) → last < length xs
    → slice_get (take (last + 1) xs) (length (take (last + 1) xs) - 1) ≡ Some (slice_index xs last)
last_of_front xs last l =
    let size : length (take (last + 1) xs) - 1 ≡ last = omega (arith, length-take (last + 1) xs) in
    rw (size, slice_get-take (last + 1) xs last (omega arith)) (slice_get-get_or xs last 0 l)

-- a part of what is left of a list is a part of the list
pub part_of_rest : (xs : List ℕ) (n a b : ℕ) → slice_range xs (n + a) (n + b) ≡ slice_range (drop n xs) a b
part_of_rest xs n a b =
    let size : n + b - (n + a) ≡ b - a = omega arith in
    rw (size, drop-drop a n xs) refl

-- an element of a part is one of the list, before the end of the part
pub in_part : (xs : List ℕ) (a b i x : ℕ) → slice_get (slice_range xs a b) i ≡ Some x
    → (a + i < b) × (slice_get xs (a + i) ≡ Some x)
in_part xs a b i x is = by_cases (cases_lt i (b - a))
    (λ low. (omega (arith, low), sym (slice_get-take (b - a) (drop a xs) i low ∙ slice_get-drop a xs i) ∙ is))
    (λ past. let none = slice_get_past (slice_range xs a b) i (omega (arith, past, length-take (b - a) (drop a xs))) in
    absurd (cc))
