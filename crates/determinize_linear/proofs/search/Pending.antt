-- The pending pairs of a search: their positions fall from the top of the stack on.
-- Main statements: run_steps, step_later, IsPending, pending_more, pending_below, pending_choices.
-- Used by: UnderWay.
-- Idea: a run stays at its position or continues one further, so what follows a pair is not before it.
use Rattle.std.specs.Prelude.{slice_get}
use Rattle.std.proofs.Common.{◌≡◌, ◌<◌, ◌≤◌, ◌++◌, ◌∙◌, ◌∷◌, ◌||◌, ℕ, Bool, List, [], ap, append-nil, arith, false}
use Rattle.std.proofs.Common.{length, map, nat_eq, refl, subst, suc, true}
use Rattle.std.proofs.lemmas.Bool.{false≢true, or_left, or_right}
use Rattle.std.proofs.lemmas.Bool.Decides.{nat_tests}
use Rattle.std.proofs.lemmas.Option.{slice_get_within}
use Rattle.determinize_below.specs.Nfa.{IsAccepted}
use Rattle.determinize_below.specs.Edges.{target}
use Rattle.determinize_below.specs.Positions.{byte_edges, true_edges, truth}
use Rattle.determinize_below.specs.Semantics.{Nfa, Text, after_at, before_at}
use Rattle.determinize_below.proofs.nfas.Edges.{target-end}
use Rattle.determinize_below.proofs.nfas.SoundNfa.{accepted_sound, target_within}
use Rattle.ordered_reach.proofs.Cases.{by_option, by_test}
use Rattle.ordered_reach.proofs.graph.FiniteGraphs.{same_decides}
use Rattle.ordered_reach.proofs.runs.ByPosition.{member-run_edges, pair_eq, same_pairs}
use Rattle.ordered_reach.specs.Reach.{member}
use Rattle.ordered_reach.specs.Runs.{placed, run_edges}

-- the pairs that follow a pair in runs
abbrev pub run_steps : Nfa → Text → ℕ × ℕ → List (ℕ × ℕ)
run_steps nfa text = run_edges (true_edges nfa text) (byte_edges nfa text)

-- they are not before it
pub step_later : (nfa : Nfa) (text : Text) (p q : ℕ × ℕ)
    → member (pair_eq nat_eq) (run_steps nfa text p) q ≡ true → p.0 ≤ q.0
step_later nfa text p q m =
    let both = member-run_edges same_decides (true_edges nfa text) (byte_edges nfa text) p q in
    grind (arith, nat_tests, both, m)

-- pairs at positions from k on that fall, the first of them at most at `top`, and at states of the NFA
abbrev pub IsPending : Nfa → ℕ → ℕ → List (ℕ × ℕ) → Type 0
IsPending nfa k top [] = Unit {0}
IsPending nfa k top (p ∷ ps) =
    (k ≤ p.0) × (p.0 ≤ top) × (p.1 < length nfa.states) × IsPending nfa k p.0 ps

pub pending_more : (nfa : Nfa) (k low top : ℕ) (ps : List (ℕ × ℕ)) → low ≤ top → IsPending nfa k low ps
    → IsPending nfa k top ps
pending_more nfa k low top [] l h = h
pending_more nfa k low top (p ∷ ps) l h = let a : p.0 ≤ low = h.1 in (h.0, omega arith, h.2, h.3)

either : (a b : Bool) → (a || b) ≡ true → a ≡ false → b ≡ true
either a b m e = grind arith

pub pending_below : (nfa : Nfa) (k top : ℕ) (ps : List (ℕ × ℕ)) (q : ℕ × ℕ) → IsPending nfa k top ps
    → member (pair_eq nat_eq) ps q ≡ true → q.0 ≤ top
pending_below nfa k top [] q h m = absurd (false≢true m)
pending_below nfa k top (p ∷ ps) q h m = by_test (pair_eq nat_eq p q)
    (λ e. let z : p ≡ q = (same_pairs p q).0 e in
    let l : p.0 ≤ top = h.1 in subst (λ w. w.0 ≤ top) z l)
    (λ e. let r : q.0 ≤ p.0 = pending_below nfa k p.0 ps q h.3
    (either (pair_eq nat_eq p q) (member (pair_eq nat_eq) ps q) m e) in
    let l : p.0 ≤ top = h.1 in omega arith)

-- pairs of one position before others
pending_placed : (nfa : Nfa) (k i top : ℕ) (xs : List ℕ) (ys ps : List (ℕ × ℕ)) → k ≤ i → i ≤ top
    → ((t : ℕ) → member nat_eq xs t ≡ true → t < length nfa.states) → IsPending nfa k i (ys ++ ps)
    → IsPending nfa k top ((map (placed i) xs ++ ys) ++ ps)
pending_placed nfa k i top [] ys ps a b f h = pending_more nfa k i top (ys ++ ps) b h
pending_placed nfa k i top (x ∷ xs) ys ps a b f h = (
  a,
  b,
  f x (or_left (nat_eq x x) (member nat_eq xs x) ((same_decides x x).1 refl)),
  pending_placed nfa k i i xs ys ps a (omega arith) (λ t m. f t (or_right (nat_eq x t) (member nat_eq xs t) m)) h,
)

-- the pairs over a byte, those at the position, and then others
pending_steps : (nfa : Nfa) (k i end : ℕ) (bs es : List ℕ) (ps : List (ℕ × ℕ)) → k ≤ i → i ≤ end
    → (0 < length bs → i < end) → ((t : ℕ) → member nat_eq bs t ≡ true → t < length nfa.states)
    → ((t : ℕ) → member nat_eq es t ≡ true → t < length nfa.states) → IsPending nfa k i ps
    → IsPending nfa k end ((map (placed (suc i)) bs ++ map (placed i) es) ++ ps)
pending_steps nfa k i end [] es ps a b c f g h =
    let free : IsPending nfa k i ((map (placed i) es ++ []) ++ ps)
    = pending_placed nfa k i i es [] ps a (omega arith) g h in
    pending_more nfa k i end (map (placed i) es ++ ps) b
    (subst (λ l. IsPending nfa k i (l ++ ps)) (append-nil (map (placed i) es)) free)
pending_steps nfa k i end (x ∷ bs) es ps a b c f g h =
    let free : IsPending nfa k i ((map (placed i) es ++ []) ++ ps)
    = pending_placed nfa k i i es [] ps a (omega arith) g h in
    let same : IsPending nfa k i (map (placed i) es ++ ps)
    = subst (λ l. IsPending nfa k i (l ++ ps)) (append-nil (map (placed i) es)) free in
    pending_placed nfa k (suc i) end (x ∷ bs) (map (placed i) es) ps (omega arith) (omega (arith, c (omega arith))) f
    (pending_more nfa k i (suc i) (map (placed i) es ++ ps) (omega arith) same)

-- the pairs that follow a pair, in its place
pub pending_choices : (nfa : Nfa) → IsAccepted nfa → (text : Text) (k : ℕ) (p : ℕ × ℕ) (ps : List (ℕ × ℕ))
    → IsPending nfa k (length text.bytes) (p ∷ ps)
    → IsPending nfa k (length text.bytes) (run_steps nfa text p ++ ps)
pending_choices nfa accepted text k p ps h =
    pending_steps nfa k p.0 (length text.bytes) (byte_edges nfa text p.0 p.1) (true_edges nfa text p.0 p.1) ps h.0 h.1
    (λ l. by_option (slice_get text.bytes p.0)
    (λ z. let none : byte_edges nfa text p.0 p.1 ≡ []
    = ap (λ u. target nfa u p.1) z ∙ target-end nfa p.1 in
    let no : length (byte_edges nfa text p.0 p.1) ≡ 0 = ap length none in absurd (omega arith))
    (λ b z. slice_get_within text.bytes p.0 b z))
    (λ t m. target_within nfa accepted (slice_get text.bytes p.0) p.1 t m)
    (λ t m. (accepted_sound nfa accepted).resolves (truth nfa (before_at text p.0) (after_at text p.0)) p.1 t m)
    h.3
