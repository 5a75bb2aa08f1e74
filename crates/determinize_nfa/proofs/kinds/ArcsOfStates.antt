-- The transitions of a state in one list are those that the definitions by kinds give it.
-- Main statements: arc_leads, leads_arc, arc_below, edge_in, edge_taken, byte_taken, arc_reads.
-- Used by: Choices, FoundStates, Recorded, and the loops over the transitions of a state.
-- Idea: a case for each kind, here only; of a table the runs are as TableRuns says.
use Rattle.determinize_nfa.proofs.Common.{All, Arc, Assertion, BinaryUnion, Bool, ByteRange, Dense, Free, In, In_cases}
use Rattle.determinize_nfa.proofs.Common.{In_flat_map_from, In_head, In_map, In_map_from, In_none, In_tail, IsAccepted}
use Rattle.determinize_nfa.proofs.Common.{List, Look, Nfa, Node, None, Option, Range, Some, Sparse, Test, Transition}
use Rattle.determinize_nfa.proofs.Common.{Union, [], ap, append-nil, arcs_of, arith, by_test, cond, each_passes}
use Rattle.determinize_nfa.proofs.Common.{edges_of, eq-eqb, eqb-true, false, flat_map, get_or, is_first}
use Rattle.determinize_nfa.proofs.Common.{is_sparse_sound, leads_to, length, list_all, list_any, map, matches, nat_eq}
use Rattle.determinize_nfa.proofs.Common.{nat_lt, nat_tests, next_of, not, refl, resolves, runs, slice_get}
use Rattle.determinize_nfa.proofs.Common.{slice_get-get_or, some_injective, suc, sym, target_of, targets_in, true, ℕ}
use Rattle.determinize_nfa.proofs.Common.{◌&&◌, ◌<◌, ◌∷◌, ◌≡◌, ◌≤◌}
use Rattle.std.proofs.lemmas.List.Folds.{list_all-map}
use Rattle.determinize_below.specs.Semantics.{Capture}
use Rattle.determinize_below.specs.Transition.{ascends_from, sparse_target}
use Rattle.ordered_reach.proofs.lists.Elements.{In_flat_map}
use Rattle.determinize_nfa.proofs.kinds.TableRuns.{byte_run, run_target}
use Rattle.determinize_nfa.proofs.kinds.TestedLists.{In_one, all_by, any_by, any_from}

-- where a state leads
any_map : {A : Type 0} (f : A → Arc) (t : ℕ) (xs : List A)
    → list_any (λ x. nat_eq t (next_of (f x))) xs ≡ list_any (λ a. nat_eq t (next_of a)) (map f xs)
any_map f t [] = refl
any_map f t (x ∷ xs) = rw (any_map f t xs) refl

first_any : (t id : ℕ) (ids : List ℕ) → is_first id ids ≡ true → nat_eq t id ≡ true → list_any (nat_eq t) ids ≡ true
first_any t id [] e k = cc
first_any t id (x ∷ xs) e k = grind (arith, nat_tests)

table_leads : (t : ℕ) (ids : List ℕ) (a b : ℕ)
    → (not (nat_eq t 0) && list_any (nat_eq t) ids) ≡ list_any (λ r. nat_eq t r.next) (runs a b ids)
table_leads t [] a b = grind arith
table_leads t (id ∷ ids) a b = grind (
  arith,
  nat_tests,
  table_leads t ids a (suc b),
  table_leads t ids (suc b) (suc b),
  first_any t id ids,
)

pub leads_is : (t : ℕ) (node : Node) → leads_to t node ≡ list_any (λ a. nat_eq t (next_of a)) (arcs_of node)
leads_is t (Sparse rs) = any_map Range t rs
leads_is t (Dense ids) = rw (table_leads t ids 0 0) (any_map Range t (runs 0 0 ids))
leads_is t (Union ids) = any_map Free t ids
leads_is t s = grind arith

pub arc_leads : (a : Arc) (node : Node) → In a (arcs_of node) → leads_to (next_of a) node ≡ true
arc_leads a node k = rw (leads_is (next_of a) node)
    (any_by (λ x. nat_eq (next_of a) (next_of x)) a (arcs_of node) k (eq-eqb (next_of a) (next_of a) refl))

pub leads_arc : (t : ℕ) (node : Node) → leads_to t node ≡ true → In t (targets_in node)
leads_arc t node k = any_from (λ a. nat_eq t (next_of a)) (arcs_of node) (rw (leads_is t node) at k)
    (λ a i e. rw (eqb-true t (next_of a) e) (In_map next_of a (arcs_of node) i))

-- the ids in a state
all_runs : (p : ℕ → Bool) (ids : List ℕ) (a b : ℕ) → list_all p ids ≡ true
    → list_all (λ r. p r.next) (runs a b ids) ≡ true
all_runs p [] a b h = refl
all_runs p (id ∷ ids) a b h = grind (arith, h, all_runs p ids a (suc b), all_runs p ids (suc b) (suc b))

resolves_all : (count : ℕ) (node : Node) → resolves count node ≡ true
    → list_all (λ a. nat_lt (next_of a) count) (arcs_of node) ≡ true
resolves_all count (Sparse rs) h = rw (list_all-map (λ (a : Arc). nat_lt (next_of a) count) Range rs) h
resolves_all count (Dense ids) h = rw (list_all-map (λ (a : Arc). nat_lt (next_of a) count) Range (runs 0 0 ids))
    (all_runs (λ id. nat_lt id count) ids 0 0 h)
resolves_all count (Union ids) h = rw (list_all-map (λ (a : Arc). nat_lt (next_of a) count) Free ids) h
resolves_all count s h = grind arith

arc_resolves : (count : ℕ) (node : Node) (a : Arc) → resolves count node ≡ true → In a (arcs_of node)
    → next_of a < count
arc_resolves count node a h k =
    let z : nat_lt (next_of a) count ≡ true
    = all_by (λ x. nat_lt (next_of x) count) a (arcs_of node) k (resolves_all count node h) in grind arith

pub arc_below : (nfa : Nfa) → IsAccepted nfa → (s : ℕ) (node : Node) (a : Arc) → slice_get nfa.states s ≡ Some node
    → In a (arcs_of node) → next_of a < length nfa.states
arc_below nfa accepted s node a e k =
    arc_resolves (length nfa.states) node a (each_passes nfa accepted s node e).resolves k

pub arcs_resolve : (count : ℕ) (node : Node) → resolves count node ≡ true → All (λ a. next_of a < count) (arcs_of node)
arcs_resolve count node h i d l =
    arc_resolves count node (get_or (arcs_of node) i d) h (i, slice_get-get_or (arcs_of node) i d l)

-- the targets without input
abbrev pub free_of : (Assertion → Bool) → Arc → List ℕ
free_of holds (Range r) = []
free_of holds (Test look next) = cond (holds look) (next ∷ []) []
free_of holds (Free next) = next ∷ []

ranges_free : (holds : Assertion → Bool) (rs : List Transition) → [] ≡ flat_map (free_of holds) (map Range rs)
ranges_free holds [] = refl
ranges_free holds (r ∷ rs) = ranges_free holds rs

frees_free : (holds : Assertion → Bool) (ids : List ℕ) → ids ≡ flat_map (free_of holds) (map Free ids)
frees_free holds [] = refl
frees_free holds (id ∷ ids) = ap (λ (xs : List ℕ). id ∷ xs) (frees_free holds ids)

pub edges_are : (holds : Assertion → Bool) (node : Node) → edges_of holds node ≡ flat_map (free_of holds) (arcs_of node)
edges_are holds (Sparse rs) = ranges_free holds rs
edges_are holds (Dense ids) = ranges_free holds (runs 0 0 ids)
edges_are holds (Union ids) = frees_free holds ids
edges_are holds s = grind (arith, append-nil)

-- a transition of a state leads without input where these assertions hold
pub edge_in : (holds : Assertion → Bool) (node : Node) (a : Arc) (t : ℕ) → In a (arcs_of node)
    → In t (free_of holds a) → In t (edges_of holds node)
edge_in holds node a t k i = rw (edges_are holds node) (In_flat_map (free_of holds) (arcs_of node) a t k i)

-- the transition leads from position i to position k, where u is the next byte and these assertions hold
abbrev pub Takes : Option ℕ → (Assertion → Bool) → ℕ → ℕ → Arc → Type 0
Takes u holds i k (Range r) = (k ≡ suc i) × (b : ℕ) × (u ≡ Some b) × (matches r b ≡ true)
Takes u holds i k (Test look next) = (k ≡ i) × (holds look ≡ true)
Takes u holds i k (Free next) = k ≡ i

-- some transition of the state leads from position i to t at position k
abbrev pub IsTaken : Option ℕ → (Assertion → Bool) → ℕ → ℕ → Node → ℕ → Type 0
IsTaken u holds i k node t = (a : Arc) × In a (arcs_of node) × (next_of a ≡ t) × Takes u holds i k a

pub edge_taken : (u : Option ℕ) (holds : Assertion → Bool) (node : Node) (i t : ℕ) → In t (edges_of holds node)
    → IsTaken u holds i i node t
edge_taken u holds node i t k =
    In_flat_map_from (free_of holds) (arcs_of node) t (rw (edges_are holds node) at k) from_arc
  where
    from_arc : (a : Arc) → In a (arcs_of node) → In t (free_of holds a) → IsTaken u holds i i node t
    from_arc (Range r) d j = In_none t j
    from_arc (Test look next) d j = by_test (holds look)
        (λ e. (Test look next, d, sym (In_one t next (rw e at j)), (refl, e)))
        (λ e. In_none t (rw e at j))
    from_arc (Free next) d j = (Free next, d, sym (In_one t next j), refl)

-- the target of a sparse state over a byte of a transition is that of the transition
ascends_low : (ts : List Transition) (low : ℕ) (r : Transition) → ascends_from low ts ≡ true → In r ts → low ≤ r.start
ascends_low [] low r a k = In_none r k
ascends_low (t ∷ ts) low r a k = In_cases r t ts k
    (λ e. rw e (grind (arith, a)))
    (λ i. grind (arith, a, ascends_low ts (suc t.end) r))

sparse_at : (ts : List Transition) (low : ℕ) (r : Transition) (b : ℕ) → ascends_from low ts ≡ true → In r ts
    → matches r b ≡ true → sparse_target ts b ≡ Some r.next
sparse_at [] low r b a k m = In_none r k
sparse_at (t ∷ ts) low r b a k m = In_cases r t ts k
    (λ e. let y : matches t b ≡ true = rw e at m in rw (y, e) refl)
    (λ i. let rest : ascends_from (suc t.end) ts ≡ true = grind (arith, a) in
    let s : suc t.end ≤ r.start = ascends_low ts (suc t.end) r rest i in
    let y : matches t b ≡ false = grind (arith, nat_tests, s, m) in rw y (sparse_at ts (suc t.end) r b rest i m))

-- and a target is that of some transition
sparse_from : (ts : List Transition) (b t : ℕ) → sparse_target ts b ≡ Some t
    → (r : Transition) × In r ts × (r.next ≡ t) × (matches r b ≡ true)
sparse_from [] b t e = absurd (let k : None ≡ Some t = e in cc)
sparse_from (r ∷ rs) b t e = by_test (matches r b)
    (λ z. (r, In_head r rs, some_injective r.next t (rw z at e), z))
    (λ z. let d = sparse_from rs b t (rw z at e) in (d.0, In_tail d.0 r rs d.1, d.2, d.3))

pub byte_taken : (u : Option ℕ) (holds : Assertion → Bool) (node : Node) (i t : ℕ) → target_of u node ≡ Some t
    → IsTaken u holds i (suc i) node t
byte_taken None holds node i t e = absurd (grind (arith, e))
byte_taken (Some b) holds (ByteRange r) i t e = by_test (matches r b)
    (λ z. (Range r, In_head (Range r) [], some_injective r.next t (rw z at e), (refl, b, refl, z)))
    (λ z. absurd (let k : None ≡ Some t = rw z at e in cc))
byte_taken (Some b) holds (Sparse rs) i t e =
    let d = sparse_from rs b t e in (Range d.0, In_map Range d.0 rs d.1, d.2, (refl, b, refl, d.3))
byte_taken (Some b) holds (Dense ids) i t e =
    let d = byte_run ids b t e in (Range d.0, In_map Range d.0 (runs 0 0 ids) d.1, d.2, (refl, b, refl, d.3))
byte_taken (Some b) holds s i t e = absurd (let k : None ≡ Some t = e in cc)

range_in : (rs : List Transition) (r : Transition) → In (Range r) (map Range rs) → In r rs
range_in rs r k = In_map_from Range (Range r) rs k (λ x i e. let z : r ≡ x = cc in rw z i)

no_range : {P : Type 0} (ids : List ℕ) (r : Transition) → In (Range r) (map Free ids) → P
no_range ids r k = In_map_from Free (Range r) ids k (λ x i e. cc)

pub arc_reads : (node : Node) (r : Transition) (b : ℕ) → is_sparse_sound node ≡ true → In (Range r) (arcs_of node)
    → matches r b ≡ true → target_of (Some b) node ≡ Some r.next
arc_reads (ByteRange x) r b h k m = let e = In_one (Range r) (Range x) k in let z : x ≡ r = cc in rw (z, m) refl
arc_reads (Sparse rs) r b h k m = sparse_at rs 0 r b h (range_in rs r k) m
arc_reads (Dense ids) r b h k m = run_target ids r (range_in (runs 0 0 ids) r k) b m
arc_reads (Look look next) r b h k m = let e = In_one (Range r) (Test look next) k in cc
arc_reads (Union ids) r b h k m = no_range ids r k
arc_reads (BinaryUnion x y) r b h k m = no_range (x ∷ y ∷ []) r k
arc_reads (Capture next) r b h k m = no_range (next ∷ []) r k
arc_reads s r b h k m = In_none (Range r) k
