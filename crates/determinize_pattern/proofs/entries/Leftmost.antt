-- The preferred run of an NFA, and its leftmost match, are those of its patterns.
-- Main statements: first_from_run, run_from_first, in_order, nfa_of, leftmost_is_of.
-- Used by: Starting and leftmost_of_law.
-- Idea: the first label is that of the first walk, and two runs that are preferred to each other are one.
use Rattle.std.specs.Prelude.{Contains, slice_get, ◌↔◌}
use Rattle.std.proofs.Common.{◌≡◌, ◌<◌, ◌∙◌, ◌∷◌, ℕ, List, None, Option, Some, [], ap, arith, refl, sym}
use Rattle.ordered_reach.specs.Paths.{Before}
use Rattle.ordered_reach.specs.Walks.{IsGraphWalk}
use Rattle.ordered_reach.proofs.Cases.{by_option, some_injective}
use Rattle.ordered_reach.proofs.lists.Elements.{Contains_from_In, In_from_Contains, In_none}
use Rattle.ordered_reach.proofs.lists.Lexicographic.{same_least}
use Rattle.ordered_reach.proofs.walks.FirstLabels.{first_preferred, label_listed}
use Rattle.ordered_reach.proofs.walks.LoopFreeWalks.{one_end, walk_is_path}
use Rattle.determinize_below.proofs.nfas.SoundNfa.{match_in}
use Rattle.determinize_below.specs.Semantics.{Match, Nfa, Text, choices, state_at}
use Rattle.determinize_below.specs.declared.search.Match.{Match as Found}
use Rattle.determinize_nfa.specs.Leftmost.{IsLeftmost, NothingFrom}
use Rattle.determinize_nfa.specs.Runs.{AcceptsFrom}
use Rattle.determinize_pattern.proofs.entries.Parts.{label_is, label_of}
use Rattle.determinize_pattern.proofs.entries.RunsInOrder.{AscendsByPattern, earlier_first, ends_ascend}
use Rattle.determinize_pattern.specs.Compiled.{IsNfaOf, IsPreferredFrom}
use Rattle.determinize_pattern.specs.LeftmostOf.{IsLeftmostOf, all_ends}
use Rattle.determinize_pattern.specs.Meaning.{Re}
use Rattle.determinize_pattern.specs.Private.Entries.{Finds, matched}

module _ (nfa : Nfa) (text : Text) (start k : ℕ) (xs : List (ℕ × ℕ)) (lists : Finds nfa text start k xs) where
  abbrev next : ℕ × ℕ → List (ℕ × ℕ)
  next = choices nfa text

  -- a run to a labelled pair accepts
  accepts_label : (cs : List ℕ) (q x : ℕ × ℕ) → IsGraphWalk next (k, start) cs q → Contains (matched nfa q) x
      → AcceptsFrom nfa text k start cs x.1 x.0
  accepts_label cs q x w c =
      let l = label_is nfa text q x (In_from_Contains (matched nfa q) x c) in
      let run = rw l.1 at ((walk_is_path next (matched nfa) (k, start) xs lists cs q).0 w) in
      (q.1, run, match_in (state_at nfa q.1) x.0 l.0)

  -- and an accepting run ends at a labelled pair
  label_accepted : (cs : List ℕ) (j p : ℕ) (a : AcceptsFrom nfa text k start cs j p)
      → IsGraphWalk next (k, start) cs (j, a.0) × Contains (matched nfa (j, a.0)) (p, j)
  label_accepted cs j p a = (
    (walk_is_path next (matched nfa) (k, start) xs lists cs (j, a.0)).1 a.1,
    Contains_from_In (matched nfa (j, a.0)) (p, j) (label_of nfa text j a.0 p a.2),
  )

  pub accepts_each : (j p : ℕ) → ((cs : List ℕ) × AcceptsFrom nfa text k start cs j p) ↔ Contains xs (p, j)
  accepts_each j p = (
    λ a. let l = label_accepted a.0 j p a.1 in
        (label_listed next (matched nfa) (k, start) xs lists (p, j)).1 (a.0, (j, a.1.0), l.0, l.1),
    λ c. let w = (label_listed next (matched nfa) (k, start) xs lists (p, j)).0 c in
        (w.0, accepts_label w.0 w.1 (p, j) w.2 w.3),
  )

  -- the first label is that of a preferred run
  pub run_from_first : (j p : ℕ) → slice_get xs 0 ≡ Some (p, j)
      → (cs : List ℕ) × IsPreferredFrom nfa text k start cs j p
  run_from_first j p e = go xs refl
    where
      go : (ys : List (ℕ × ℕ)) → xs ≡ ys → (cs : List ℕ) × IsPreferredFrom nfa text k start cs j p
      go [] z = In_none (p, j) (0, rw z at e)
      go (y ∷ ys) z =
          let q : y ≡ (p, j) = some_injective y (p, j) (rw z at e) in
          let f = first_preferred next (matched nfa) (k, start) (p, j) ys (rw (z, q) at lists) in (
            f.0,
            record {
              accepts = accepts_label f.0 f.1 (p, j) f.2 f.3;
              preferred = λ ds i other a.
                  let l = label_accepted ds i other a in f.4 ds (i, a.0) (other, i) l.0 l.1;
            },
          )

  -- and two preferred runs are one, with one end
  pub first_from_run : (cs : List ℕ) (j p : ℕ) → IsPreferredFrom nfa text k start cs j p
      → slice_get xs 0 ≡ Some (p, j)
  first_from_run cs j p h = by_option (slice_get xs 0)
      (λ e. none xs refl e ((accepts_each j p).0 (cs, h.accepts)))
      (λ y e.
      let f = run_from_first y.1 y.0 e in
      let same : cs ≡ f.0 = same_least cs f.0 (h.preferred f.0 y.1 y.0 f.1.accepts) (f.1.preferred cs j p h.accepts) in
      let a = label_accepted cs j p h.accepts in
      let b = label_accepted f.0 y.1 y.0 f.1.accepts in
      let end : (j, h.accepts.0) ≡ (y.1, f.1.accepts.0) = one_end next f.0 (k, start) _ _ (rw same at a.0) b.0 in
      let place : j ≡ y.1 = ap (λ w. w.0) end in
      let match : Match p ≡ Match y.0 = sym h.accepts.2 ∙ ap (λ w. state_at nfa w.1) end ∙ f.1.accepts.2 in
      let pattern : p ≡ y.0 = cc in
      rw (pattern, place) e)
    where
      none : (ys : List (ℕ × ℕ)) → xs ≡ ys → slice_get xs 0 ≡ None → Contains xs (p, j) → slice_get xs 0 ≡ Some (p, j)
      none [] z e c = In_none (p, j) (In_from_Contains [] (p, j) (rw z at c))
      none (y ∷ ys) z e c = absurd (let q : Some y ≡ None = rw z at e in cc)

  -- a run that accepts an earlier pattern is before one that accepts a later one
  in_order : AscendsByPattern xs → (cs ds : List ℕ) (i j p q : ℕ) → p < q → AcceptsFrom nfa text k start cs i p
      → AcceptsFrom nfa text k start ds j q → Before cs ds
  in_order ascends cs ds i j p q l a b =
      let v = label_accepted cs i p a in
      let w = label_accepted ds j q b in
      earlier_first next (matched nfa) (λ y. y.0) (k, start) xs lists ascends cs ds (i, a.0) (j, b.0) (p, i) (q, j)
      v.0 v.1 w.0 w.1 l (λ e.
      let end : (i, a.0) ≡ (j, b.0) = one_end next ds (k, start) _ _ (rw e at v.0) w.0 in
      let match : Match p ≡ Match q = sym a.2 ∙ ap (λ y. state_at nfa y.1) end ∙ b.2 in
      let same : p ≡ q = cc in omega (arith, l, same))

module _ (nfa : Nfa) (res : List Re) where
  pub nfa_of : ((text : Text) (k : ℕ) → Finds nfa text nfa.start_anchored k (all_ends nfa.terminator text 0 res k))
      → IsNfaOf res nfa
  nfa_of finds = record {
    each = λ text k j p. accepts_each nfa text nfa.start_anchored k _ (finds text k) j p;
    first = λ text k j p. (
      λ h. first_from_run nfa text nfa.start_anchored k _ (finds text k) h.0 j p h.1,
      λ e. run_from_first nfa text nfa.start_anchored k _ (finds text k) j p e,
    );
    order = λ text k cs ds i j p q l a b. in_order nfa text nfa.start_anchored k _ (finds text k)
        (ends_ascend nfa.terminator text res 0 k) cs ds i j p q l a b;
  }

  module _ (is : IsNfaOf res nfa) (text : Text) where
    abbrev found : ℕ → List (ℕ × ℕ)
    found k = all_ends nfa.terminator text 0 res k

    nothing_found : (k : ℕ) → NothingFrom nfa text k → found k ≡ []
    nothing_found k h = go (found k) refl
      where
        go : (ys : List (ℕ × ℕ)) → found k ≡ ys → found k ≡ []
        go [] e = e
        go (y ∷ ys) e =
            let r = (is.first text k y.1 y.0).1 (rw e refl) in absurd (h r.0 y.1 y.0 r.1.accepts)

    nothing_accepted : (k : ℕ) → found k ≡ [] → NothingFrom nfa text k
    nothing_accepted k e cs i p a =
        In_none (p, i) (In_from_Contains [] (p, i) (rw e at ((is.each text k i p).0 (cs, a))))

    pub leftmost_is_of : (latest : ℕ) (m : Option Found)
        → IsLeftmost nfa text latest m ↔ IsLeftmostOf nfa.terminator res text latest m
    leftmost_is_of latest None = (λ h k l. nothing_found k (h k l), λ h k l. nothing_accepted k (h k l))
    leftmost_is_of latest (Some m) = (
      λ h. (
        h.0,
        λ k l. nothing_found k (h.1.leftmost k l),
        (is.first text m.start m.end m.pattern).0
            (h.1.choices, record { accepts = h.1.accepts; preferred = h.1.preferred }),
      ),
      λ h.
          let r = (is.first text m.start m.end m.pattern).1 h.2 in (
            h.0,
            record {
              leftmost = λ k l. nothing_accepted k (h.1 k l);
              choices = r.0;
              accepts = r.1.accepts;
              preferred = r.1.preferred;
            },
          ),
    )
