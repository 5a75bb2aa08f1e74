-- The states at which a part with one state or none begins.
-- Main statements: empty_entry, fail_entry, byte_entry, sparse_entry, look_entry.
-- Used by: the files compiled.
-- Idea: the state has at most one edge.
use Rattle.std.specs.List.{find, flat_map, list_any}
use Rattle.std.specs.Prelude.{Contains, cond, nat_lt, option_map, slice_get}
use Rattle.std.proofs.Common.{◌≡◌, ◌∙◌, ◌∷◌, ◌||◌, ℕ, Bool, List, None, Option, Some, [], false, refl, suc, true}
use Rattle.std.proofs.lemmas.List.{append-nil}
use Rattle.ordered_reach.proofs.Cases.{by_test}
use Rattle.ordered_reach.proofs.lists.Elements.{Contains_from_In, In, In_head}
use Rattle.ordered_reach.proofs.walks.Steps.{list_none, list_one}
use Rattle.determinize_below.specs.Edges.{pattern_in}
use Rattle.determinize_below.specs.Semantics.{ByteRange, Fail, Look, Nfa, Node, Sparse, Text, choices, edges_of, state_at, target_of, within}
use Rattle.determinize_below.specs.declared.look.Look.{Look as Assertion}
use Rattle.determinize_below.specs.declared.nfa.transitions.Transition.{Transition}
use Rattle.determinize_pattern.proofs.entries.Parts.{if_same, next_of, unlabelled}
use Rattle.determinize_pattern.specs.Private.Entries.{Finds, IsEntry, leading, matched, target_of_end}
use Rattle.determinize_pattern.specs.Meaning as re
use Rattle.determinize_pattern.specs.Meaning.{Re, ends, holds_at, is_in}

first_or : (w v : Bool) (t : Transition) (o : Option Transition)
    → option_map (λ (t : Transition). t.next) o ≡ cond v (Some t.next) None
    → option_map (λ (t : Transition). t.next) (cond w (Some t) o) ≡ cond (w || v) (Some t.next) None
first_or true v t o h = refl
first_or false v t o h = h

-- a range of a class contains the byte, and leads where each one does
pub class_target : (ranges : List (ℕ × ℕ)) (next b : ℕ)
    → option_map (λ (t : Transition). t.next) (find (λ t. within t.start t.end b) (leading next ranges))
    ≡ cond (list_any (λ r. within r.0 r.1 b) ranges) (Some next) None
class_target [] next b = refl
class_target (r ∷ rest) next b =
    first_or (within r.0 r.1 b) (list_any (λ q. within q.0 q.1 b) rest)
    (record { start = r.0; end = r.1; next = next })
    (find (λ t. within t.start t.end b) (leading next rest)) (class_target rest next b)

module _ (nfa : Nfa) (text : Text) where
  -- one edge, to a state at the position j
  one_way : (next i j s : ℕ) (zs : ℕ → List (ℕ × ℕ)) (xs : List ℕ) → xs ≡ j ∷ []
      → choices nfa text (i, s) ≡ (j, next) ∷ [] → matched nfa (i, s) ≡ []
      → ((k : ℕ) → Contains xs k → Finds nfa text (target_of_end i k next next) k (zs k))
      → Finds nfa text s i (flat_map zs xs)
  one_way next i j s zs xs e c l h =
      let here : In j xs = rw e (In_head j []) in
      rw (e, append-nil (zs j)) (list_one (choices nfa text) (matched nfa) (i, s) (j, next) (zs j) c l
      (rw (if_same (nat_lt i j) next) at (h j (Contains_from_In xs j here))))

  no_way : (i s : ℕ) (zs : ℕ → List (ℕ × ℕ)) (xs : List ℕ) → xs ≡ [] → choices nfa text (i, s) ≡ []
      → matched nfa (i, s) ≡ [] → Finds nfa text s i (flat_map zs xs)
  no_way i s zs xs e c l = rw e (rw l at (list_none (choices nfa text) (matched nfa) (i, s) c))

  pub empty_entry : (next : ℕ) → IsEntry nfa text re.Empty next next next
  empty_entry next i zs h =
      rw (append-nil (zs i)) (rw (if_same (nat_lt i i) next) at (h i (Contains_from_In (i ∷ []) i (In_head i []))))

  -- a state that has a transition on the bytes of a class, and no other
  reading_entry : (ranges : List (ℕ × ℕ)) (next s : ℕ) (node : Node) → state_at nfa s ≡ node → pattern_in node ≡ None
      → ((h : Assertion → Bool) → edges_of h node ≡ [])
      → ((u : Option ℕ) → target_of u node ≡ cond (is_in ranges u) (Some next) None)
      → IsEntry nfa text (re.Byte ranges) next next s
  reading_entry ranges next s node e n edges target i zs h =
      let u = slice_get text.bytes i in
      by_test (is_in ranges u)
      (λ z. one_way next i (suc i) s zs _ (rw z refl)
      (next_of nfa text s i node e ∙ rw (target u, z, edges _) refl) (unlabelled nfa text s i node e n) h)
      (λ z. no_way i s zs _ (rw z refl)
      (next_of nfa text s i node e ∙ rw (target u, z, edges _) refl) (unlabelled nfa text s i node e n))

  pub fail_entry : (next s : ℕ) → state_at nfa s ≡ Fail → IsEntry nfa text (re.Byte []) next next s
  fail_entry next s e = reading_entry [] next s Fail e refl (λ h. refl) target
    where
      target : (u : Option ℕ) → target_of u Fail ≡ cond (is_in [] u) (Some next) None
      target None = refl
      target (Some b) = refl

  pub byte_entry : (t : Transition) (s : ℕ) → state_at nfa s ≡ ByteRange t
      → IsEntry nfa text (re.Byte ((t.start, t.end) ∷ [])) t.next t.next s
  byte_entry t s e = reading_entry ((t.start, t.end) ∷ []) t.next s (ByteRange t) e refl (λ h. refl) target
    where
      or_false : (w : Bool) → cond w (Some t.next) None ≡ cond (w || false) (Some t.next) None
      or_false true = refl
      or_false false = refl

      target : (u : Option ℕ) → target_of u (ByteRange t) ≡ cond (is_in ((t.start, t.end) ∷ []) u) (Some t.next) None
      target None = refl
      target (Some b) = or_false (within t.start t.end b)

  pub sparse_entry : (ranges : List (ℕ × ℕ)) (next s : ℕ) → state_at nfa s ≡ Sparse (leading next ranges)
      → IsEntry nfa text (re.Byte ranges) next next s
  sparse_entry ranges next s e = reading_entry ranges next s (Sparse (leading next ranges)) e refl (λ h. refl) target
    where
      target : (u : Option ℕ) → target_of u (Sparse (leading next ranges)) ≡ cond (is_in ranges u) (Some next) None
      target None = refl
      target (Some b) = class_target ranges next b

  pub look_entry : (look : Assertion) (next s : ℕ) → nfa.reverse ≡ false → state_at nfa s ≡ Look look next
      → IsEntry nfa text (re.Look look) next next s
  look_entry look next s forward e i zs h = by_test (holds_at nfa.terminator text i look)
      (λ z. one_way next i i s zs _ (rw z refl) (next_of nfa text s i (Look look next) e ∙ rw (forward, z) refl)
      (unlabelled nfa text s i (Look look next) e refl) h)
      (λ z. no_way i s zs _ (rw z refl) (next_of nfa text s i (Look look next) e ∙ rw (forward, z) refl)
      (unlabelled nfa text s i (Look look next) e refl))
