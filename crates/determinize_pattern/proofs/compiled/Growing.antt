-- A builder that grows keeps its states.
-- Main statements: map_take_more, extends_then, continues_old, grown, is_new, adds_none to adds_all.
-- Used by: the files compiled.
-- Idea: each statement is about every NFA that has the states, so nothing is said of ranges of ids.
use Rattle.std.specs.Prelude.{nat_lt, slice_index, slice_index_or}
use Rattle.std.proofs.Common.{◌≡◌, ◌+◌, ◌<◌, ◌≤◌, ◌++◌, ◌∙◌, ◌∷◌, ℕ, Bool, List, [], arith, false, get_or-set_other, get_or-set_same, length, length-set, ltb-false, ltb-true, map, refl, set, sym, take, true}
use Rattle.std.proofs.lemmas.List.{get_or_append_left, get_or_push, get_or_read, length_push, map-append, take_more}
use Rattle.ordered_reach.proofs.Cases.{by_test}
use Rattle.determinize_below.specs.Semantics.{Fail, Match, Nfa, Node, Union, state_at}
use Rattle.determinize_nfa.specs.Builder.{BuilderValue, with_match, with_node}
use Rattle.determinize_pattern.specs.Private.Compiling.{AddsEach, Continues, Extends, Paid}
use Rattle.determinize_pattern.specs.Private.Entries.{in_order}

pub map_take_more : {X Y : Type 0} (f : X → Y) (xs : List X) (i : ℕ) (x : X) → i < length xs
    → x ≡ slice_index_or xs i x → map f (take (i + 1) xs) ≡ map f (take i xs) ++ f x ∷ []
map_take_more f xs i x h e = rw (take_more xs i x h, ← e, map-append) refl

pub extends_same : (b : BuilderValue) → Extends b b
extends_same b = record { longer = omega arith; kept = λ q l. refl; terminator = refl }

pub extends_then : (a b c : BuilderValue) → Extends a b → Extends b c → Extends a c
extends_then a b c f g = record {
  longer = omega (arith, f.longer, g.longer);
  kept = λ q l. g.kept q (omega (arith, f.longer)) ∙ f.kept q l;
  terminator = g.terminator ∙ f.terminator;
}

pub less_left : (old new : BuilderValue) (before after : ℕ) → Extends old new → Paid old before new after
    → after ≤ before
less_left old new before after f paid = omega (arith, f.longer, paid)

pub node_paid : (old mid new : List Node) (node : Node) (before after : ℕ) → mid ≡ old → after + 1 ≡ before
    → new ≡ mid ++ node ∷ [] → length new + after ≤ length old + before
node_paid old mid new node before after e s g = rw (g, e) (omega (arith, length_push old node, s))

pub continues_old : (old new : BuilderValue) → Extends old new → (nfa : Nfa) → Continues new nfa → Continues old nfa
continues_old old new f nfa h = record {
  states = λ q l w. h.states q (omega (arith, f.longer)) (λ z. w (sym (f.kept q l) ∙ z)) ∙ f.kept q l;
  terminator = h.terminator ∙ f.terminator;
  forward = h.forward;
}

pub grown : (b : BuilderValue) (node : Node) → Extends b (with_node b node)
grown b node = record {
  longer = omega (arith, length_push b.states node);
  kept = λ q l. get_or_append_left b.states (node ∷ []) Fail q l;
  terminator = refl;
}

-- the number of patterns is irrelevant
pub match_grown : (b : BuilderValue) → Extends b (with_match b)
match_grown b =
    let g = grown b (Match b.patterns) in
    record { longer = g.longer; kept = g.kept; terminator = g.terminator }

pub continues_match : (b : BuilderValue) (nfa : Nfa) → Continues (with_match b) nfa
    → Continues (with_node b (Match b.patterns)) nfa
continues_match b nfa h = record { states = h.states; terminator = h.terminator; forward = h.forward }

pub is_new : (b : BuilderValue) (node : Node) (nfa : Nfa) → Continues (with_node b node) nfa → (node ≡ Union [] → ⊥)
    → (s : ℕ) → s ≡ length b.states → state_at nfa s ≡ node
is_new b node nfa h w s i =
    let e : slice_index_or (b.states ++ node ∷ []) (length b.states) Fail ≡ node
    = get_or_push b.states node Fail (length b.states) refl in
    rw i (h.states (length b.states) (omega (arith, length_push b.states node)) (λ z. w (sym e ∙ z)) ∙ e)

-- the entries from `first` on that are below n are new states
pub record AddsBelow (first : ℕ) (old new : BuilderValue) (ids entries : List ℕ) (n : ℕ) (node : ℕ → Node)
    : Type 0 where
  pub extends : Extends old new
  pub len : length entries ≡ length ids
  pub left : (k : ℕ) → n ≤ k → slice_index entries k ≡ slice_index ids k
  pub each : (nfa : Nfa) → Continues new nfa → (k : ℕ) → first ≤ k → k < n
      → state_at nfa (slice_index entries k) ≡ node k

pub adds_none : (first : ℕ) (b : BuilderValue) (ids : List ℕ) (node : ℕ → Node)
    → AddsBelow first b b ids ids first node
adds_none first b ids node = record {
  extends = extends_same b;
  len = refl;
  left = λ k l. refl;
  each = λ nfa h k w l. absurd (omega (arith, w, l));
}

pub adds_more : (first : ℕ) (old mid new : BuilderValue) (ids entries : List ℕ) (n s : ℕ) (node : ℕ → Node)
    → AddsBelow first old mid ids entries n node → n < length ids → s ≡ length mid.states
    → new ≡ with_node mid (node n) → (node n ≡ Union [] → ⊥)
    → AddsBelow first old new ids (set entries n s) (n + 1) node
adds_more first old mid new ids entries n s node h l e g w = rw g (record {
  extends = extends_then old mid (with_node mid (node n)) h.extends (grown mid (node n));
  len = length-set entries n s ∙ h.len;
  left = λ k m. get_or-set_other entries n k s 0 (omega (arith, m)) ∙ h.left k (omega (arith, m));
  each = λ nfa c k f m. at nfa c k f m;
})
  where
    at : (nfa : Nfa) → Continues (with_node mid (node n)) nfa → (k : ℕ) → first ≤ k → k < n + 1
        → state_at nfa (slice_index (set entries n s) k) ≡ node k
    at nfa c k f m = by_test (nat_lt k n)
        (λ z. let q : k < n = ltb-true k n z in
        rw (get_or-set_other entries n k s 0 (omega (arith, q)))
        (h.each nfa (continues_old mid (with_node mid (node n)) (grown mid (node n)) nfa c) k f q))
        (λ z. let q : k ≡ n = omega (arith, m, ltb-false k n z) in
        rw (q, get_or-set_same entries n s 0 (omega (arith, l, h.len))) (is_new mid (node n) nfa c w s e))

-- an entry that is read before it is set
pub left_entry : (first : ℕ) (old new : BuilderValue) (ids entries : List ℕ) (n : ℕ) (node : ℕ → Node) (k id : ℕ)
    → AddsBelow first old new ids entries n node → n ≤ k → k < length ids → id ≡ slice_index_or entries k id
    → id ≡ slice_index ids k
left_entry first old new ids entries n node k id h l m e =
    get_or_read entries k id (omega (arith, m, h.len)) e 0 ∙ h.left k l

pub adds_all : (first : ℕ) (old new : BuilderValue) (ids entries : List ℕ) (n : ℕ) (node : ℕ → Node)
    → AddsBelow first old new ids entries n node → length ids ≤ n → AddsEach first old new ids entries node
adds_all first old new ids entries n node h l =
    record { extends = h.extends; len = h.len; each = λ nfa c k w m. h.each nfa c k w (omega (arith, l, m)) }

pub is_written : (first_wins : Bool) (s t : ℕ) → Union (in_order first_wins s t) ≡ Union [] → ⊥
is_written true s t y = let z : Union (s ∷ t ∷ []) ≡ Union [] = y in cc
is_written false s t y = let z : Union (t ∷ s ∷ []) ≡ Union [] = y in cc
