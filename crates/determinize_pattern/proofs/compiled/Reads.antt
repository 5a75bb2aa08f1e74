-- Patterns each of whose matches reads a byte.
-- Main statements: reads_byte, reads_first, reads_rest, reads_either, reads_repeated.
-- Used by: Compiling and the proofs of `always_reads` and `part`.
-- Idea: a match ends where it begins, or later.
use Rattle.std.specs.List.{flat_map}
use Rattle.std.specs.Prelude.{Contains, cond, nat_lt, slice_get}
use Rattle.std.proofs.Common.{◌≡◌, ◌-◌, ◌<◌, ◌++◌, ◌∷◌, ℕ, Bool, List, None, Option, Some, [], arith, length, refl, suc, zero}
use Rattle.ordered_reach.proofs.Cases.{by_cases}
use Rattle.ordered_reach.proofs.lists.Elements.{In_append_cases, In_none}
use Rattle.determinize_below.specs.Semantics.{Text}
use Rattle.determinize_below.specs.declared.look.Look.{Look as Assertion}
use Rattle.determinize_pattern.proofs.entries.Ends.{In_cond, In_one, Onward, ends_onward, rounds_onward}
use Rattle.ordered_reach.proofs.lists.Elements.{In_flat_map_from, Contains_from_In, In_from_Contains}
use Rattle.determinize_pattern.specs.Private.Compiling.{AlwaysReads}
use Rattle.determinize_pattern.specs.Meaning as re
use Rattle.determinize_pattern.specs.Patterns.{copies, literal, repeated, up_to}
use Rattle.determinize_pattern.specs.Meaning.{Re, ends, holds_at, is_in, rounds}

pub reads_byte : (ranges : List (ℕ × ℕ)) → AlwaysReads (re.Byte ranges)
reads_byte ranges t text i j h =
    In_cond (is_in ranges (slice_get text.bytes i)) j (suc i ∷ []) [] (In_from_Contains _ j h)
    (λ e k. In_one j (suc i) k (λ z. omega arith))
    (λ e k. In_none j k)

-- each match of the pattern reads nothing
abbrev pub AlwaysStays : Re → Type 0
AlwaysStays re = (t : ℕ) (text : Text) (i j : ℕ) → Contains (ends t text re i) j → j ≡ i

pub stays_empty : AlwaysStays re.Empty
stays_empty t text i j h = In_one j i (In_from_Contains (i ∷ []) j h) (λ e. e)

pub stays_look : (look : Assertion) → AlwaysStays (re.Look look)
stays_look look t text i j h =
    In_cond (holds_at t text i look) j (i ∷ []) [] (In_from_Contains _ j h)
    (λ e k. In_one j i k (λ z. z)) (λ e k. In_none j k)

later : (text : Text) (i l j : ℕ) → i < l → Onward text l j → i < j
later text i l j h k = by_cases k (λ e. omega arith) (λ m. omega (arith, m.0))

pub reads_first : (a b : Re) → AlwaysReads a → AlwaysReads (re.Then a b)
reads_first a b r t text i j h =
    In_flat_map_from (ends t text b) (ends t text a i) j
    (In_from_Contains (flat_map (ends t text b) (ends t text a i)) j h)
    (λ l k m. later text i l j (r t text i l (Contains_from_In (ends t text a i) l k)) (ends_onward t text b l j m))

pub reads_rest : (a b : Re) → AlwaysReads b → AlwaysReads (re.Then a b)
reads_rest a b r t text i j h =
    In_flat_map_from (ends t text b) (ends t text a i) j
    (In_from_Contains (flat_map (ends t text b) (ends t text a i)) j h)
    (λ l k m. let n : l < j = r t text l j (Contains_from_In (ends t text b l) j m) in
    by_cases (ends_onward t text a i l k) (λ e. omega arith) (λ y. omega (arith, y.0)))

pub reads_either : (a b : Re) → AlwaysReads a → AlwaysReads b → AlwaysReads (re.Or a b)
reads_either a b r s t text i j h =
    In_append_cases j (ends t text a i) (ends t text b i) (In_from_Contains (ends t text a i ++ ends t text b i) j h)
    (λ k. r t text i j (Contains_from_In (ends t text a i) j k))
    (λ k. s t text i j (Contains_from_In (ends t text b i) j k))

pub reads_plus : (greedy : Bool) (a : Re) → AlwaysReads a → AlwaysReads (re.Plus greedy a)
reads_plus greedy a r t text i j h =
    In_flat_map_from
    (λ l. cond (nat_lt i l) (rounds greedy (ends t text a) (length text.bytes - l) l) (l ∷ []))
    (ends t text a i) j (In_from_Contains (ends t text (re.Plus greedy a) i) j h)
    (λ l k m. let n : i < l = r t text i l (Contains_from_In (ends t text a i) l k) in
    In_cond (nat_lt i l) j (rounds greedy (ends t text a) (length text.bytes - l) l) (l ∷ []) m
    (λ e c. later text i l j n (rounds_onward text greedy (ends t text a) (λ x y z. ends_onward t text a x y z)
    (length text.bytes - l) l j c))
    (λ e c. In_one j l c (λ z. omega arith)))

pub reads_literal : (b : ℕ) (bytes : List ℕ) → AlwaysReads (literal (b ∷ bytes))
reads_literal b bytes = reads_first (re.Byte ((b, b) ∷ [])) (literal bytes) (reads_byte ((b, b) ∷ []))

pub reads_copies : (n : ℕ) (a b : Re) → AlwaysReads a → AlwaysReads (copies (suc n) a b)
reads_copies n a b r = reads_first a (copies n a b) r

reads_before : (n : ℕ) (a b : Re) → AlwaysReads b → AlwaysReads (copies n a b)
reads_before zero a b r = r
reads_before (suc n) a b r = reads_rest a (copies n a b) (reads_before n a b r)

pub reads_repeated : (min : ℕ) (max : Option ℕ) (greedy : Bool) (a : Re) → 0 < min → AlwaysReads a
    → AlwaysReads (repeated min max greedy a)
reads_repeated zero max greedy a l r = absurd (omega (arith, l))
reads_repeated (suc n) None greedy a l r = reads_before n a (re.Plus greedy a) (reads_plus greedy a r)
reads_repeated (suc n) (Some max) greedy a l r = reads_copies n a (up_to greedy (max - suc n) a) r

pub reads_some_literal : (bytes : List ℕ) → 0 < length bytes → AlwaysReads (literal bytes)
reads_some_literal [] l = absurd (omega (arith, l))
reads_some_literal (b ∷ bytes) l = reads_literal b bytes

pub empty_literal : (bytes : List ℕ) → length bytes ≡ 0 → literal bytes ≡ re.Empty
empty_literal [] l = refl
empty_literal (b ∷ bytes) l = absurd (omega (arith, l))
