-- Lists that are mapped, one element more at a time.
-- Main statements: items-at, mapped-push, lists-push, unwrapped, map-copied.
-- Used by: the loops over lists of patterns, `memory_usage`, `offsets_of`, `lists_of`, `to_rows`.
-- Idea: `map_more` of std, with the equations that a loop has.
use Rattle.determinize_dense.proofs.Common.{AllZip, get_or, get_or-map, length, List, lists_of, map, map_more, map_push}
use Rattle.determinize_core.proofs.Common.{option_map}
use Rattle.determinize_state.specs.Value.{listed}
use Rattle.std.specs.Option.{unwrap_or}
use Rattle.determinize_dense.proofs.Common.{arith, Option, refl, take, Value, [], ℕ, ◌++◌, ◌+◌, ◌<◌, ◌∷◌, ◌≡◌}

-- the list of an element at an index
pub items-at : {L : Type 0} (f : L → List ℕ) (lists : List L) {x : L} {i : ℕ} → i < length lists → x ≡ get_or lists i x
    → f x ≡ get_or (map f lists) i []
items-at f lists {x} {i} inside is = let at = get_or-map f lists i x [] inside in rw (at, ← is)

-- one element more of a list that is mapped
pub mapped-push : {A B : Type 0} (f : A → B) (done more : List B) (xs : List A) (i : ℕ) (d : A)
    → done ≡ map f (take i xs) → more ≡ done ++ f (get_or xs i d) ∷ [] → i < length xs
    → more ≡ map f (take (i + 1) xs)
mapped-push f done more xs i d so_far more_is inside = rw (more_is, so_far, map_more f xs i d inside)

-- one list more
pub lists-push : {L : Type 0} (f : L → List ℕ) (lists : List L) {more : List L} {list : L}
    (values : List Value) {i : ℕ} {v : Value} → map f lists ≡ lists_of (take i values) → more ≡ lists ++ list ∷ []
    → f list ≡ v.patterns → i < length values → get_or values i v ≡ v → map f more ≡ lists_of (take (i + 1) values)
lists-push f lists values {i = i} {v = v} so_far more_is same inside at =
    rw (more_is, map_push, so_far, same, map_more (λ (x : Value). x.patterns) values i v inside, at)

-- the list of an option, or one that is empty
pub unwrapped : {L : Type 0} (f : L → List ℕ) (some : Option L) (none : L) (ps : List ℕ) → option_map f some ≡ listed ps
    → f none ≡ [] → f (unwrap_or some none) ≡ ps
unwrapped f some none ps is empty = grind arith

-- copies of lists
pub map-copied : {L : Type 0} (f : L → List ℕ) (R : L → L → Type 0) → ((x y : L) → R x y → f y ≡ f x) → (xs ys : List L)
    → AllZip R xs ys → map f ys ≡ map f xs
map-copied f R same [] [] all = refl
map-copied f R same [] (y ∷ ys) all = absurd all
map-copied f R same (x ∷ xs) [] all = absurd all
map-copied f R same (x ∷ xs) (y ∷ ys) all = rw (same x y all.0, map-copied f R same xs ys all.1)
