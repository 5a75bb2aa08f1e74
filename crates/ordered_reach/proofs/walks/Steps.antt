-- What a node lists, from what the targets of its edges list.
-- Main statements: list_none, list_one, list_two, list_each.
-- Used by: the crates above.
-- Idea: what is listed at one depth is listed at each greater one, so one depth is enough for several nodes.
use Rattle.ordered_reach.proofs.Common.{[], All, All-cons, All-nil, ap, append-nil, arith, flat_map, List, refl, suc, zero, ℕ, ◌++◌, ◌+◌, ◌∙◌, ◌∷◌, ◌≡◌}
use Rattle.ordered_reach.proofs.lists.Elements.{All_at, flat_map_same}
use Rattle.ordered_reach.specs.Walks.{labels_within, ListsLabels, Settles}

module _ {N A : Type 0} (next : N → List N) (labels : N → List A) where
  abbrev lists : ℕ → N → List A
  lists = labels_within next labels

  settle_one_more : (n : ℕ) (r : N) → Settles next n r → Settles next (suc n) r
  settle_one_more zero r h = absurd h
  settle_one_more (suc n) r h = λ k d l. settle_one_more n _ (h k d l)

  list_one_more : (n : ℕ) (r : N) → Settles next n r → lists (suc n) r ≡ lists n r
  list_one_more zero r h = absurd h
  list_one_more (suc n) r h = ap (λ w. labels r ++ w) (flat_map_same (lists (suc n)) (lists n) (next r)
      (λ t k. list_one_more n t (All_at (Settles next n) (next r) h t k)))

  -- the walks from each of the nodes have less than n edges, and these are the labels at their ends
  record AllList (n : ℕ) (ts : List N) (xs : List A) : Type 0 where
    settle : All (Settles next n) ts
    is : flat_map (lists n) ts ≡ xs

  all_more : (k n m : ℕ) (ts : List N) (xs : List A) → k + n ≡ m → AllList n ts xs → AllList m ts xs
  all_more zero n m ts xs e h = let z : n ≡ m = omega arith in rw z at h
  all_more (suc k) n m ts xs e h =
      let z : suc (k + n) ≡ m = omega arith in
      let g = all_more k n (k + n) ts xs refl h in
      let more : AllList (suc (k + n)) ts xs = record {
        settle = λ i d l. settle_one_more (k + n) _ (g.settle i d l);
        is = flat_map_same (lists (suc (k + n))) (lists (k + n)) ts
            (λ t m. list_one_more (k + n) t (All_at (Settles next (k + n)) ts g.settle t m)) ∙ g.is;
      } in
      rw z at more

  -- each of these nodes lists what has its place
  abbrev pub EachLists : List N → List (List A) → Type 0
  EachLists [] [] = Unit {0}
  EachLists (t ∷ ts) (xs ∷ xss) = ListsLabels next labels t xs × EachLists ts xss
  EachLists _ _ = ⊥

  all_list : (ts : List N) (xss : List (List A)) → EachLists ts xss → (n : ℕ) × AllList n ts (flat_map (λ xs. xs) xss)
  all_list [] [] h = (0, record { settle = All-nil (Settles next 0); is = refl })
  all_list [] (xs ∷ xss) h = absurd h
  all_list (t ∷ ts) [] h = absurd h
  all_list (t ∷ ts) (xs ∷ xss) h =
      let k = all_list ts xss h.1 in
      let n : ℕ = h.0.0 + k.0 in
      let one : AllList h.0.0 (t ∷ []) xs = record {
        settle = All-cons (Settles next h.0.0) t [] h.0.1 (All-nil (Settles next h.0.0));
        is = rw (append-nil (lists h.0.0 t)) h.0.2;
      } in
      let a : AllList n (t ∷ []) xs = all_more k.0 h.0.0 n (t ∷ []) xs (omega arith) one in
      let b : AllList n ts (flat_map (λ ys. ys) xss) = all_more h.0.0 k.0 n ts (flat_map (λ ys. ys) xss) refl k.1 in
      let first : lists n t ≡ xs = rw (append-nil (lists n t)) at a.is in (
        n,
        record {
          settle = All-cons (Settles next n) t ts (All_at (Settles next n) (t ∷ []) a.settle t (0, refl)) b.settle;
          is = cc (first, b.is);
        },
      )

  pub list_each : (r : N) (ts : List N) (xss : List (List A)) → next r ≡ ts → labels r ≡ [] → EachLists ts xss
      → ListsLabels next labels r (flat_map (λ xs. xs) xss)
  list_each r ts xss e l h = let k = all_list ts xss h in (suc k.0, rw e k.1.settle, rw (l, e) k.1.is)

  pub list_none : (r : N) → next r ≡ [] → ListsLabels next labels r (labels r)
  list_none r e = (1, rw e (All-nil (Settles next 0)), rw e (append-nil (labels r)))

  pub list_one : (r t : N) (xs : List A) → next r ≡ t ∷ [] → labels r ≡ [] → ListsLabels next labels t xs
      → ListsLabels next labels r xs
  list_one r t xs e l h = rw (append-nil xs) at (list_each r (t ∷ []) (xs ∷ []) e l (h, tt))

  pub list_two : (r t u : N) (xs ys : List A) → next r ≡ t ∷ u ∷ [] → labels r ≡ [] → ListsLabels next labels t xs
      → ListsLabels next labels u ys → ListsLabels next labels r (xs ++ ys)
  list_two r t u xs ys e l h k =
      rw (append-nil ys) at (list_each r (t ∷ u ∷ []) (xs ∷ ys ∷ []) e l (h, (k, tt)))
