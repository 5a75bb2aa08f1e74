-- Where all walks from a node end, a search lists the labels at their ends, and the first label is that of the first
-- walk with one.
-- Main statements: label_listed, first_preferred.
-- Used by: walks_law, and the crates above.
-- Idea: a search of depth n goes through the walks in their order.
use Rattle.ordered_reach.proofs.Common.{[], ap, arith, Before, by_cases, flat_map, inl, inr, List, refl, slice_get, Some, suc, sym, zero, ℕ, ◌++◌, ◌<◌, ◌∙◌, ◌∷◌, ◌≡◌, ◌⊎◌}
use Rattle.std.specs.Prelude.{Contains, ◌↔◌}
use Rattle.std.proofs.lemmas.Bool.{cases_lt}
use Rattle.ordered_reach.proofs.lists.Elements.{All_at, Contains_from_In, In, In_append_cases, In_append_left, In_append_right, In_flat_map, In_flat_map_from, In_from_Contains, In_head, In_none}
use Rattle.ordered_reach.proofs.lists.Lexicographic.{Before-first, Before-rest}
use Rattle.ordered_reach.specs.Walks.{IsGraphWalk, labels_within, ListsLabels, Settles}

-- the first element of a list that is put together: the first part that has one, and all before are empty
record FirstIn {A B : Type 0} (f : A → List B) (ys : List A) (x : B) : Type 0 where
  at : ℕ
  node : A
  rest : List B
  is : slice_get ys at ≡ Some node
  begins : f node ≡ x ∷ rest
  none : (d : ℕ) (u : A) → d < at → slice_get ys d ≡ Some u → f u ≡ []

first_in : {A B : Type 0} (f : A → List B) (ys : List A) (x : B) (xs : List B) → flat_map f ys ≡ x ∷ xs
    → FirstIn f ys x
first_in f [] x xs e = absurd (let k : [] ≡ x ∷ xs = e in cc)
first_in {A} {B} f (y ∷ ys) x xs e = go (λ k. first_in f ys x xs k) (f y) refl
  where
    go : (flat_map f ys ≡ x ∷ xs → FirstIn f ys x) → (zs : List B) → f y ≡ zs → FirstIn f (y ∷ ys) x
    go others [] z =
        let g = others (rw z at e) in
        record { at = suc g.at; node = g.node; rest = g.rest; is = g.is; begins = g.begins; none = before g }
      where
        before : (g : FirstIn f ys x) (d : ℕ) (u : A) → d < suc g.at → slice_get (y ∷ ys) d ≡ Some u → f u ≡ []
        before g zero u l k = let q : y ≡ u = cc in sym (ap f q) ∙ z
        before g (suc d) u l k = g.none d u (omega arith) k
    go others (w ∷ zs) z =
        let k : w ∷ (zs ++ flat_map f ys) ≡ x ∷ xs = rw z at e in
        let h : w ≡ x = cc in
        record { at = 0; node = y; rest = zs; is = refl; begins = rw h at z; none = λ d u l q. absurd (omega arith) }

module _ {N A : Type 0} (next : N → List N) (labels : N → List A) where
  abbrev lists : ℕ → N → List A
  lists = labels_within next labels

  -- a walk to a node with the label
  record Labelled (r : N) (x : A) : Type 0 where
    by : List ℕ
    end : N
    walk : IsGraphWalk next r by end
    label : In x (labels end)

  sound : (n : ℕ) (r : N) (x : A) → In x (lists n r) → Labelled r x
  sound zero r x h = In_none x h
  sound (suc n) r x h = In_append_cases x (labels r) (flat_map (lists n) (next r)) h
      (λ k. record { by = []; end = r; walk = refl; label = k })
      (λ k. In_flat_map_from (lists n) (next r) x k (λ t m l.
      let z = sound n t x l in
      record { by = m.0 ∷ z.by; end = z.end; walk = (t, m.1, z.walk); label = z.label }))

  complete : (cs : List ℕ) (n : ℕ) (r s : N) (x : A) → Settles next n r → IsGraphWalk next r cs s → In x (labels s)
      → In x (lists n r)
  complete cs zero r s x h w l = absurd h
  complete [] (suc n) r s x h w l = In_append_left x (labels r) (flat_map (lists n) (next r)) (rw w at l)
  complete (c ∷ cs) (suc n) r s x h w l =
      In_append_right x (labels r) (flat_map (lists n) (next r)) (In_flat_map (lists n) (next r) w.0 x (c, w.1)
      (complete cs n w.0 s x (All_at (Settles next n) (next r) h w.0 (c, w.1)) w.2 l))

  -- the label is at the end of the first walk that has one there
  record IsFirst (r : N) (x : A) : Type 0 where
    at : Labelled r x
    least : (ds : List ℕ) (t : N) (y : A) → IsGraphWalk next r ds t → In y (labels t)
        → (at.by ≡ ds) ⊎ Before at.by ds

  empty_first : (ds : List ℕ) → ([] ≡ ds) ⊎ Before [] ds
  empty_first [] = inl refl
  empty_first (d ∷ ds) = inr refl

  first : (n : ℕ) (r : N) (x : A) (xs : List A) → Settles next n r → lists n r ≡ x ∷ xs → IsFirst r x
  first zero r x xs h e = absurd h
  first (suc n) r x xs h e = go (λ t zs k l. first n t x zs k l) (labels r) refl
    where
      settled : (d : ℕ) (t : N) → slice_get (next r) d ≡ Some t → Settles next n t
      settled d t k = All_at (Settles next n) (next r) h t (d, k)

      go : ((t : N) (zs : List A) → Settles next n t → lists n t ≡ x ∷ zs → IsFirst t x)
          → (ls : List A) → labels r ≡ ls → IsFirst r x
      go from (l ∷ ls) z =
          let k : l ∷ (ls ++ flat_map (lists n) (next r)) ≡ x ∷ xs = rw z at e in
          let q : l ≡ x = cc in
          record {
            at = record { by = []; end = r; walk = refl; label = rw (z, q) (In_head x ls) };
            least = λ ds t y w m. empty_first ds;
          }
      go from [] z =
          let g = first_in (lists n) (next r) x xs (rw z at e) in
          let f = from g.node g.rest (settled g.at g.node g.is) g.begins in
          record {
            at = record { by = g.at ∷ f.at.by; end = f.at.end; walk = (g.node, g.is, f.at.walk); label = f.at.label };
            least = least g f;
          }
        where
          least : (g : FirstIn (lists n) (next r) x) (f : IsFirst g.node x) (ds : List ℕ) (t : N) (y : A)
              → IsGraphWalk next r ds t → In y (labels t) → (g.at ∷ f.at.by ≡ ds) ⊎ Before (g.at ∷ f.at.by) ds
          least g f [] t y w m = In_none y (rw (w, z) at m)
          least g f (d ∷ ds) t y w m = by_cases (cases_lt d g.at)
              (λ l. In_none y (rw (g.none d w.0 l w.1) at (complete ds n w.0 t y (settled d w.0 w.1) w.2 m)))
              (λ l. by_cases (cases_lt g.at d)
              (λ k. inr (Before-first g.at d f.at.by ds k))
              (λ k. same d ds w.0 (omega arith) w.1 w.2))
            where
              same : (d : ℕ) (ds : List ℕ) (u : N) → d ≡ g.at → slice_get (next r) d ≡ Some u → IsGraphWalk next u ds t
                  → (g.at ∷ f.at.by ≡ d ∷ ds) ⊎ Before (g.at ∷ f.at.by) (d ∷ ds)
              same d ds u q i v =
                  let a : Some u ≡ Some g.node = sym i ∙ ap (slice_get (next r)) q ∙ g.is in
                  let b : u ≡ g.node = cc in
                  rw q (by_cases (f.least ds t y (rw b at v) m)
                  (λ c. inl (ap (λ k. g.at ∷ k) c))
                  (λ c. inr (Before-rest g.at f.at.by ds c)))

  -- the labels are those at the ends of walks
  pub label_listed : (r : N) (xs : List A) → ListsLabels next labels r xs → (x : A)
      → (Contains xs x) ↔ ((cs : List ℕ) × (s : N) × IsGraphWalk next r cs s × Contains (labels s) x)
  label_listed r xs l x = (
    λ h. let z = sound l.0 r x (rw l.2 (In_from_Contains xs x h)) in
        (z.by, z.end, z.walk, Contains_from_In (labels z.end) x z.label),
    λ h. Contains_from_In xs x (rw l.2 at
        (complete h.0 l.0 r h.1 x l.1 h.2 (In_from_Contains (labels h.1) x h.3))),
  )

  -- the first label is at the end of the first walk that has one there
  pub first_preferred : (r : N) (x : A) (xs : List A) → ListsLabels next labels r (x ∷ xs)
      → (cs : List ℕ) × (s : N) × IsGraphWalk next r cs s × Contains (labels s) x
      × ((ds : List ℕ) (t : N) (y : A) → IsGraphWalk next r ds t → Contains (labels t) y → (cs ≡ ds) ⊎ Before cs ds)
  first_preferred r x xs l =
      let f = first l.0 r x xs l.1 l.2 in (
        f.at.by,
        f.at.end,
        f.at.walk,
        Contains_from_In (labels f.at.end) x f.at.label,
        λ ds t y w m. f.least ds t y w (In_from_Contains (labels t) y m),
      )
