-- The enumeration `ends` of the loop-free paths of a graph, on closed sets of nodes.
-- Main statements: IsClosed, ends-closed_set, fresh-held, fresh-ends_new.
-- Used by: everything that a search with a visited set is compared with.
-- Idea: an edge from a closed set goes to it or to a visited node, so nothing in it need be searched again.
use Rattle.ordered_reach.proofs.Common.{none_held, [], ap, arith, Bool, by_test, cond, Decides, ends, false, false≢true, filter, flat_map, flat_map-append, fresh, fun_ext, joined, List, member, not, or_false, or_left, or_right, refl, suc, sym, true, true≢false, with_node, zero, ℕ, ◌++◌, ◌||◌, ◌∙◌, ◌∷◌, ◌≡◌}
use Rattle.ordered_reach.proofs.lists.Pieces.{filter-flat_map, flat_map-same}
use Rattle.ordered_reach.proofs.lists.NewNodes.{eq-self, filter_none, flat_map-agree, flat_map-member, fresh-append, fresh-filter, member-flat_map}

-- the fuel is more than the length of each loop-free path from r that avoids the visited nodes
abbrev pub IsEnough : {N : Type 0} → (N → N → Bool) → (N → List N) → ℕ → (N → Bool) → N → Type 0
IsEnough eq edges zero held r = held r ≡ true
IsEnough {N} eq edges (suc n) held r =
    held r ≡ false → (t : N) → member eq (edges r) t ≡ true → IsEnough eq edges n (with_node eq held r) t

-- each edge from the set goes to the set or to a visited node
abbrev pub IsClosed : {N : Type 0} → (N → N → Bool) → (N → List N) → (N → Bool) → (N → Bool) → Type 0
IsClosed {N} eq edges v held =
    (x y : N) → v x ≡ true → member eq (edges x) y ≡ true → joined v held y ≡ true

-- what the edges of r find once r is visited
abbrev pub ends_behind : {N : Type 0} → (N → N → Bool) → (N → List N) → ℕ → (N → Bool) → N → List N
ends_behind eq edges n held r = flat_map (ends eq edges n (with_node eq held r)) (edges r)

module _ {N : Type 0} {eq : N → N → Bool} (dec : (a b : N) → Decides (eq a b) (a ≡ b)) (edges : N → List N) where
  -- more fuel changes nothing
  pub ends-enough : (n m : ℕ) (held : N → Bool) (r : N) → IsEnough eq edges n held r
      → IsEnough eq edges m held r → ends eq edges n held r ≡ ends eq edges m held r
  ends-enough zero zero held r a b = refl
  ends-enough zero (suc m) held r a b = rw a refl
  ends-enough (suc n) zero held r a b = rw b refl
  ends-enough (suc n) (suc m) held r a b = by_test (held r)
      (λ e. rw e refl)
      (λ e. rw e (ap (λ l. r ∷ l) (flat_map-agree dec _ _ (edges r)
      (λ t k. ends-enough n m (with_node eq held r) t (a e t k) (b e t k)))))

  -- enough fuel is enough if more is visited
  pub IsEnough-more_held : (n : ℕ) (held more : N → Bool) (r : N)
      → ((x : N) → held x ≡ true → more x ≡ true) → IsEnough eq edges n held r → IsEnough eq edges n more r
  IsEnough-more_held zero held more r s a = s r a
  IsEnough-more_held (suc n) held more r s a = λ e t k.
      IsEnough-more_held n (with_node eq held r) (with_node eq more r) t
      (λ x m. grind (arith, s x)) (a (grind (arith, s r)) t k)

  pub IsEnough-from_none : (n : ℕ) (held : N → Bool) (r : N) → IsEnough eq edges n none_held r
      → IsEnough eq edges n held r
  IsEnough-from_none n held r = IsEnough-more_held n none_held held r (λ x m. absurd (false≢true m))

  pub IsEnough-more_fuel : (n : ℕ) (held : N → Bool) (r : N) → IsEnough eq edges n held r
      → IsEnough eq edges (suc n) held r
  IsEnough-more_fuel zero held r a = λ e t k. absurd (true≢false (sym a ∙ e))
  IsEnough-more_fuel (suc n) held r a = λ e t k. IsEnough-more_fuel n (with_node eq held r) t (a e t k)

  pub ends-held : (n : ℕ) (held : N → Bool) (r : N) → held r ≡ true → ends eq edges n held r ≡ []
  ends-held zero held r e = refl
  ends-held (suc n) held r e = rw e refl

  -- a node that is not visited is found from itself
  pub ends_self : (n : ℕ) (held : N → Bool) (r : N) → IsEnough eq edges n held r
      → (member eq (ends eq edges n held r) r || held r) ≡ true
  ends_self zero held r a = a
  ends_self (suc n) held r a = grind (arith, eq-self dec r)

  -- a node that is found is the start, or is found behind one of its edges
  pub ends_cases : {P : Type 0} (n : ℕ) (held : N → Bool) (r x : N) → member eq (ends eq edges (suc n) held r) x ≡ true
      → (held r ≡ false → r ≡ x → P)
      → (held r ≡ false → (t : N) → member eq (edges r) t ≡ true
      → member eq (ends eq edges n (with_node eq held r) t) x ≡ true → P) → P
  ends_cases n held r x m f g = by_test (held r)
      (λ e. absurd (false≢true (rw e at m)))
      (λ e. by_test (eq r x)
      (λ q. f e ((dec r x).0 q))
      (λ q. flat_map-member dec (ends eq edges n (with_node eq held r)) (edges r) x (rw (e, q) at m) (g e)))

  -- with enough fuel, each edge from a found node goes to a found or visited node
  pub ends_closed : (n : ℕ) (held : N → Bool) (r : N) → IsEnough eq edges n held r
      → IsClosed eq edges (member eq (ends eq edges n held r)) held
  ends_closed zero held r a x y m k = absurd (false≢true m)
  ends_closed (suc n) held r a x y m k =
      let h : N → Bool = with_node eq held r in ends_cases n held r x m
      (λ e q. let l : member eq (edges r) y ≡ true = rw q k in
      grind (arith, ends_self n h y (a e y l), member-flat_map dec (ends eq edges n h) (edges r) y y l))
      (λ e t l z.
      grind (arith, ends_closed n h t (a e t l) x y z k, member-flat_map dec (ends eq edges n h) (edges r) t y l))

  -- the nodes found from several roots are closed, too
  pub roots_find_closed : (n : ℕ) (held : N → Bool) (roots : List N) → ((r : N) → IsEnough eq edges n held r)
      → IsClosed eq edges (member eq (flat_map (ends eq edges n held) roots)) held
  roots_find_closed n held roots a x y m k = flat_map-member dec (ends eq edges n held) roots x m (λ r l z.
      let c = ends_closed n held r (a r) x y z k in
      grind (arith, c, member-flat_map dec (ends eq edges n held) roots r y l))

  -- the nodes found from a closed set are in it
  pub ends_within : (n : ℕ) (v held more : N → Bool) (r x : N) → IsClosed eq edges v held
      → ((y : N) → held y ≡ true → more y ≡ true) → (v r || held r) ≡ true
      → member eq (ends eq edges n more r) x ≡ true → v x ≡ true
  ends_within zero v held more r x c s i m = absurd (false≢true m)
  ends_within (suc n) v held more r x c s i m =
      let start : more r ≡ false → v r ≡ true = λ e. grind (arith, s r) in
      ends_cases n more r x m (λ e q. rw q at (start e))
      (λ e t l z. ends_within n v held (with_node eq more r) t x c (λ y h. or_right (eq r y) (more y) (s y h))
      (c r t (start e) l) z)

  -- a closed set and the visited nodes may be left out together
  pub ends-closed_set : (n : ℕ) (v held : N → Bool) (r : N) → IsClosed eq edges v held
      → filter (λ x. not (v x)) (ends eq edges n held r) ≡ ends eq edges n (joined v held) r
  ends-closed_set zero v held r c = refl
  ends-closed_set (suc n) v held r c = by_test (held r)
      (λ e. grind arith)
      (λ e. by_test (v r)
      (λ k. rw (ends-held (suc n) (joined v held) r (or_left (v r) (held r) k))
      (filter_none dec v (ends eq edges (suc n) held r)
      (λ x m. ends_within (suc n) v held held r x c (λ y h. h) (or_left (v r) (held r) k) m)))
      (λ k. let turn : with_node eq (joined v held) r ≡ joined v (with_node eq held r) = fun_ext (λ x. grind arith) in
      rw (e, k, turn, filter-flat_map (λ x. not (v x)) (ends eq edges n (with_node eq held r)) (edges r))
      (ap (λ l. r ∷ l) (flat_map-same _ _ (edges r)
      (λ t. ends-closed_set n v (with_node eq held r) t (λ x y m l. grind (arith, c x y m l)))))))

  -- two visited sets, and two graphs, that agree on a closed set that contains the start
  pub ends_agree : (others : N → List N) (n : ℕ) (v held more : N → Bool) (r : N) → IsClosed eq edges v none_held
      → ((x : N) → v x ≡ true → held x ≡ more x) → ((x : N) → v x ≡ true → edges x ≡ others x) → v r ≡ true
      → ends eq edges n held r ≡ ends eq others n more r
  ends_agree others zero v held more r c s g i = refl
  ends_agree others (suc n) v held more r c s g i =
      rw (s r i, ← (g r i)) (ap (λ l. cond (more r) [] (r ∷ l)) (flat_map-agree dec _ _ (edges r)
      (λ t l. ends_agree others n v (with_node eq held r) (with_node eq more r) t c
      (λ x m. ap (λ b. eq r x || b) (s x m)) g (or_false (v t) (c r t i l)))))

  -- the nodes of a closed set may count as visited from the start, where they count as seen
  pub fresh-held : (n : ℕ) (v held seen : N → Bool) (rs : List N) → IsClosed eq edges v held
      → ((x : N) → v x ≡ true → seen x ≡ true)
      → fresh eq seen (flat_map (ends eq edges n held) rs) ≡ fresh eq seen
      (flat_map (ends eq edges n (joined v held)) rs)
  fresh-held n v held seen rs c s =
      sym (fresh-filter dec v seen (flat_map (ends eq edges n held) rs) s)
      ∙ ap (λ l. fresh eq seen l) (filter-flat_map (λ x. not (v x)) (ends eq edges n held) rs
      ∙ flat_map-same _ _ rs (λ t. ends-closed_set n v held t c))

  -- one step of the search with a stack: a new node is listed, and its edges go before the other
  -- pending nodes
  pub fresh-ends_new : (n : ℕ) (held : N → Bool) (r : N) (rs : List N) → held r ≡ false
      → IsEnough eq edges n held r
      → fresh eq held (flat_map (ends eq edges n held) (r ∷ rs)) ≡ r ∷ fresh eq (with_node eq held r)
      (flat_map (ends eq edges n (with_node eq held r)) (edges r ++ rs))
  fresh-ends_new zero held r rs e a = absurd (false≢true (sym e ∙ a))
  fresh-ends_new (suc n) held r rs e a =
      let h1 : N → Bool = with_node eq held r in
      let A : List N = ends_behind eq edges n held r in
      let v : N → Bool = λ x. eq r x || member eq A x in
      let B : List N = flat_map (ends eq edges (suc n) held) rs in
      let C : List N = flat_map (ends eq edges (suc n) h1) rs in
      let same_A : flat_map (ends eq edges (suc n) h1) (edges r) ≡ A = flat_map-agree dec _ _ (edges r)
      (λ t l. ends-enough (suc n) n h1 t (IsEnough-more_fuel n h1 t (a e t l)) (a e t l)) in
      let closed : IsClosed eq edges v held = λ x y. rw e at (ends_closed (suc n) held r a x y) in
      let turn : joined v held ≡ joined (member eq A) h1 = fun_ext (λ x. grind arith) in
      let rest : fresh eq (joined (member eq A) h1) B ≡ fresh eq (joined (member eq A) h1) C =
      rw turn at (fresh-held (suc n) v held (joined (member eq A) h1) rs closed (λ x m. grind arith))
      ∙ sym (fresh-held (suc n) (member eq A) h1 (joined (member eq A) h1) rs
      (λ x y m l. grind (arith, closed x y (or_right (eq r x) (member eq A x) m) l))
      (λ x. or_left (member eq A x) (h1 x))) in
      let parts = flat_map-append (ends eq edges (suc n) h1) (edges r) rs in
      rw (e, e, parts, same_A, fresh-append dec h1 A B, fresh-append dec h1 A C, rest)
