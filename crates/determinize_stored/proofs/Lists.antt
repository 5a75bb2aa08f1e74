-- Lists one after the other, and where each ends.
-- Main statements: append_parts, split_parts, ends_from-are, ends_of-lists, concat_of-lists, lists_of-ends, list-first,
-- list-next.
-- Used by: `format` and `stored`, and the files of lemmas on them.
-- Idea: the ends and the joined lists determine the lists, and the other way round.
use Rattle.determinize_core.proofs.Common.{[], ap, arith, length, length-append, List, refl, slice_index, suc, sym, zero}
use Rattle.determinize_core.proofs.Common.{ℕ, ◌++◌, ◌+◌, ◌-◌, ◌<◌, ◌∙◌, ◌∷◌, ◌≡◌, ◌≤◌, subst}
use Rattle.std.specs.Prelude.{All, drop, get_or, take}
use Rattle.std.specs.List.{concat, slice_range}
use Rattle.std.proofs.Common.{append_assoc}
use Rattle.std.proofs.lemmas.List.{drop_all, drop_at, length-drop, length-take, take_all, take_at}
use Rattle.std.proofs.lemmas.List.Elements.{All-cons, All-drop, All-nil, All-take}
use Rattle.std.proofs.lemmas.List.Folds.{drop_split}
use Rattle.determinize_dense.specs.Bytes.{ends_from}
use Rattle.determinize_stored.specs.Private.Parts.{AreEnds, list_start, lists_from}

-- two beginnings of one length of one list are one
pub append_parts : (xs ys us vs : List ℕ) → length xs ≡ length us → xs ++ ys ≡ us ++ vs → (xs ≡ us) × (ys ≡ vs)
append_parts xs ys us vs len e = (
  sym (take_at xs ys (length xs) refl) ∙ ap (λ l. take (length xs) l) e ∙ take_at us vs (length xs) (sym len),
  sym (drop_at xs ys (length xs) refl) ∙ ap (λ l. drop (length xs) l) e ∙ drop_at us vs (length xs) (sym len),
)

pub slice-length : (ws : List ℕ) (a b : ℕ) → b ≤ length ws → length (slice_range ws a b) ≡ b - a
slice-length ws a b h =
    let rest = length-drop a ws in
    let count = length-take (b - a) (drop a ws) in omega (arith, h, rest, count)

-- five parts behind an index
pub split_parts : (ws : List ℕ) (a b c d e : ℕ) → a ≤ b → b ≤ c → c ≤ d → d ≤ e → e ≤ length ws
    → drop a ws ≡ slice_range ws a b ++ (slice_range ws b c ++ (slice_range ws c d ++ (slice_range ws d e
    ++ slice_range ws e (length ws))))
split_parts ws a b c d e ab bc cd de all =
    let rest = length-drop e ws in
    let last : slice_range ws e (length ws) ≡ drop e ws = take_all (length ws - e) (drop e ws) (omega (arith, rest)) in
    drop_split ws a b ab ∙ ap (λ l. slice_range ws a b ++ l) (drop_split ws b c bc
    ∙ ap (λ l. slice_range ws b c ++ l) (drop_split ws c d cd
    ∙ ap (λ l. slice_range ws c d ++ l) (drop_split ws d e de ∙ ap (λ l. slice_range ws d e ++ l) (sym last))))

pub lists_from-length : (s : ℕ) (es ws : List ℕ) → length (lists_from s es ws) ≡ length es
lists_from-length s [] ws = refl
lists_from-length s (e ∷ es) ws = ap (λ n. suc n) (lists_from-length e es ws)

pub ends_from-length : (s : ℕ) (ps : List (List ℕ)) → length (ends_from s ps) ≡ length ps
ends_from-length s [] = refl
ends_from-length s (p ∷ ps) = ap (λ n. suc n) (ends_from-length (s + length p) ps)

pub ends-below : (s : ℕ) (es : List ℕ) (last : ℕ) → AreEnds s es last → s ≤ last
ends-below s [] last h = omega (arith, h)
ends-below s (e ∷ es) last h = let k = ends-below e es last h.1 in let l = h.0 in omega (arith, k, l)

pub ends_from-are : (s : ℕ) (ps : List (List ℕ)) → AreEnds s (ends_from s ps) (s + length (concat ps))
ends_from-are s [] = omega arith
ends_from-are s (p ∷ ps) =
    let count = length-append p (concat ps) in
    let all : s + length p + length (concat ps) ≡ s + length (p ++ concat ps) = omega (arith, count) in (
      omega arith,
      subst (λ n. AreEnds (s + length p) (ends_from (s + length p) ps) n) all (ends_from-are (s + length p) ps),
    )

pub ends_from-whole : (ps : List (List ℕ)) → AreEnds 0 (ends_from 0 ps) (length (concat ps))
ends_from-whole ps = subst (λ n. AreEnds 0 (ends_from 0 ps) n)
    (let e : 0 + length (concat ps) ≡ length (concat ps) = omega arith in e) (ends_from-are 0 ps)

-- no end is above the last
pub ends-small : (limit s : ℕ) (es : List ℕ) (last : ℕ) → AreEnds s es last → last < limit → All (λ e. e < limit) es
ends-small limit s [] last h small = All-nil (λ e. e < limit)
ends-small limit s (e ∷ es) last h small =
    let below = ends-below e es last h.1 in
    All-cons (λ n. n < limit) e es (omega (arith, below, small)) (ends-small limit e es last h.1 small)

pub ends_of-lists : (s : ℕ) (es ws : List ℕ) (last : ℕ) → AreEnds s es last → last ≤ length ws
    → ends_from s (lists_from s es ws) ≡ es
ends_of-lists s [] ws last h room = refl
ends_of-lists s (e ∷ es) ws last h room =
    let below = ends-below e es last h.1 in
    let count = slice-length ws s e (omega (arith, below, room)) in
    let order = h.0 in
    let k : s + length (slice_range ws s e) ≡ e = omega (arith, count, order) in
    ap (λ n. n ∷ ends_from n (lists_from e es ws)) k ∙ ap (λ ns. e ∷ ns) (ends_of-lists e es ws last h.1 room)

pub concat_of-lists : (s : ℕ) (es ws : List ℕ) (last : ℕ) → AreEnds s es last → last ≡ length ws
    → concat (lists_from s es ws) ≡ drop s ws
concat_of-lists s [] ws last h all = sym (drop_all s ws (omega (arith, h, all)))
concat_of-lists s (e ∷ es) ws last h all =
    ap (λ l. slice_range ws s e ++ l) (concat_of-lists e es ws last h.1 all) ∙ sym (drop_split ws s e h.0)

pub lists_of-ends : (before : List ℕ) (ps : List (List ℕ)) (s : ℕ) → s ≡ length before
    → lists_from s (ends_from s ps) (before ++ concat ps) ≡ ps
lists_of-ends before [] s len = refl
lists_of-ends before (p ∷ ps) s len =
    let count = length-append before p in
    let over : s + length p - s ≡ length p = omega arith in
    let all : before ++ (p ++ concat ps) ≡ (before ++ p) ++ concat ps = sym (append_assoc before p (concat ps)) in
    let first : slice_range (before ++ (p ++ concat ps)) s (s + length p) ≡ p =
    ap (λ n. take n (drop s (before ++ (p ++ concat ps)))) over
    ∙ ap (λ l. take (length p) l) (drop_at before (p ++ concat ps) s (sym len))
    ∙ take_at p (concat ps) (length p) refl in
    let others : lists_from (s + length p) (ends_from (s + length p) ps) (before ++ (p ++ concat ps)) ≡ ps =
    ap (λ l. lists_from (s + length p) (ends_from (s + length p) ps) l) all
    ∙ lists_of-ends (before ++ p) ps (s + length p) (omega (arith, count, len)) in
    ap (λ l. l ∷ lists_from (s + length p) (ends_from (s + length p) ps) (before ++ (p ++ concat ps))) first
    ∙ ap (λ ls. p ∷ ls) others

-- the first list, and each of the others
pub list-first : (s : ℕ) (es ws : List ℕ) → 0 < length es
    → get_or (lists_from s es ws) 0 [] ≡ slice_range ws s (slice_index es 0)
list-first s [] ws h = absurd (let no : ⊥ = omega (arith, h) in no)
list-first s (e ∷ es) ws h = refl

pub list-next : (s : ℕ) (es ws : List ℕ) (k : ℕ) → suc k < length es
    → get_or (lists_from s es ws) (suc k) [] ≡ slice_range ws (slice_index es k) (slice_index es (suc k))
list-next s [] ws k h = absurd (let no : ⊥ = omega (arith, h) in no)
list-next s (e ∷ es) ws zero h = list-first e es ws (omega (arith, h))
list-next s (e ∷ es) ws (suc k) h = list-next e es ws k (omega (arith, h))

-- each end is at most the last, and at least the one before
pub end-below : (s : ℕ) (es : List ℕ) (last k : ℕ) → AreEnds s es last → k < length es → slice_index es k ≤ last
end-below s [] last k h l = absurd (let no : ⊥ = omega (arith, l) in no)
end-below s (e ∷ es) last zero h l = ends-below e es last h.1
end-below s (e ∷ es) last (suc k) h l = end-below e es last k h.1 (omega (arith, l))

pub end-order : (s : ℕ) (es : List ℕ) (last k : ℕ) → AreEnds s es last → suc k < length es
    → slice_index es k ≤ slice_index es (suc k)
end-order s [] last k h l = absurd (let no : ⊥ = omega (arith, l) in no)
end-order s (e ∷ []) last zero h l = absurd (let no : ⊥ = omega (arith, l) in no)
end-order s (e ∷ f ∷ es) last zero h l = h.1.0
end-order s (e ∷ es) last (suc k) h l = end-order e es last k h.1 (omega (arith, l))

-- the list of a row, and that it is between its ends
pub list-at : (es ws : List ℕ) (row : ℕ) → row < length es
    → get_or (lists_from 0 es ws) row [] ≡ slice_range ws (list_start es row) (slice_index es row)
list-at es ws zero h = list-first 0 es ws h
list-at es ws (suc row) h = list-next 0 es ws row h

pub start-order : (es : List ℕ) (last row : ℕ) → AreEnds 0 es last → row < length es
    → list_start es row ≤ slice_index es row
start-order es last zero h l = omega arith
start-order es last (suc row) h l = end-order 0 es last row h l

-- what is true of all that is listed is true of each list
pub list-all : (P : ℕ → Type 0) (s : ℕ) (es ws : List ℕ) (row : ℕ) → All P ws
    → All P (get_or (lists_from s es ws) row [])
list-all P s [] ws row all = All-nil P
list-all P s (e ∷ es) ws zero all = All-take P (e - s) (drop s ws) (All-drop P s ws all)
list-all P s (e ∷ es) ws (suc row) all = list-all P e es ws row all
