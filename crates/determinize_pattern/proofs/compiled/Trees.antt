-- What the compiler adds for words that share prefixes.
-- Main statements: trees_none, trees_more, tree_joined, word_tree, prefix_tree, next_more, arms_none, arms_more,
-- sparse_tree.
-- Used by: the proofs of `tree` and `join`, and the file FirstClasses.
-- Idea: at a position only the words that begin with the next byte find anything, in their order.
use Rattle.std.specs.Borrow.{Bor}
use Rattle.std.specs.List.{find, flat_map}
use Rattle.std.specs.Prelude.{All, Contains, cond, nat_eq, nat_lt, option_map, slice_get, slice_index_or}
use Rattle.std.proofs.Common.{◌≡◌, ◌+◌, ◌<◌, ◌≤◌, ◌++◌, ◌⊎◌, ◌∙◌, ◌∷◌, ℕ, List, None, Option, Some, [], ap, arith, drop, false, inl, inr, length, ltb-false, ltb-true, map, refl, suc, sym, take, true}
use Rattle.std.proofs.lemmas.Bool.Decides.{nat_tests}
use Rattle.std.proofs.lemmas.List.{append-nil, drop-drop, length-take-le}
use Rattle.std.proofs.lemmas.List.Concat.{flat_map-append}
use Rattle.ordered_reach.proofs.Cases.{by_cases, by_option, by_test}
use Rattle.ordered_reach.proofs.lists.Elements.{All_at, In, In_cases, In_from_Contains, In_head, In_map, In_none, In_tail, flat_map_same}
use Rattle.ordered_reach.proofs.walks.Steps.{EachLists, list_each, list_none, list_one}
use Rattle.determinize_below.specs.Semantics.{Fail, Nfa, Sparse, Text, Union, choices, state_at, within}
use Rattle.determinize_below.specs.declared.nfa.transitions.Transition.{Transition}
use Rattle.determinize_nfa.specs.Builder.{BuilderValue, with_node}
use Rattle.determinize_pattern.proofs.compiled.Growing.{continues_old, extends_same, extends_then, grown, is_new}
use Rattle.determinize_pattern.proofs.entries.Parts.{fails, flat_map-flat_map, if_same, next_of, unlabelled}
use Rattle.determinize_pattern.specs.Meaning.{Byte, ends, is_in}
use Rattle.determinize_pattern.specs.Patterns.{literal}
use Rattle.determinize_pattern.specs.Private.Compiling.{Continues, Extends, IsBegun, IsJoined}
use Rattle.determinize_pattern.specs.Private.Entries.{EachFinds, Finds, matched}
use Rattle.determinize_pattern.specs.Private.Words.{AllFind, HasByte, IsTree, Lead, SharesPrefix, all_found, rests_after, words_from, words_of}

-- a state that joins others
module _ (nfa : Nfa) (text : Text) (i : ℕ) where
  each_lists : (ss : List ℕ) (found : List (List (ℕ × ℕ))) → EachFinds nfa text i ss found
      → EachLists (choices nfa text) (matched nfa) (map (λ s. (i, s)) ss) found
  each_lists [] [] h = tt
  each_lists [] (xs ∷ found) h = absurd h
  each_lists (s ∷ ss) [] h = absurd h
  each_lists (s ∷ ss) (xs ∷ found) h = (h.0, each_lists ss found h.1)

  union_joins : (ss : List ℕ) (s : ℕ) → state_at nfa s ≡ Union ss → (found : List (List (ℕ × ℕ)))
      → EachFinds nfa text i ss found → Finds nfa text s i (flat_map (λ xs. xs) found)
  union_joins ss s e found h =
      list_each (choices nfa text) (matched nfa) (i, s) (map (λ t. (i, t)) ss) found
      (next_of nfa text s i (Union ss) e) (unlabelled nfa text s i (Union ss) e refl) (each_lists ss found h)

  none_joins : (s : ℕ) → state_at nfa s ≡ Fail → (found : List (List (ℕ × ℕ)))
      → EachFinds nfa text i [] found → Finds nfa text s i (flat_map (λ xs. xs) found)
  none_joins s e [] h = fails nfa text s i e
  none_joins s e (xs ∷ found) h = absurd h

  one_joins : (s : ℕ) (found : List (List (ℕ × ℕ))) → EachFinds nfa text i (s ∷ []) found
      → Finds nfa text s i (flat_map (λ xs. xs) found)
  one_joins s [] h = absurd h
  one_joins s (xs ∷ []) h = rw (append-nil xs) h.0
  one_joins s (xs ∷ ys ∷ found) h = absurd h.1

  each_more : (ss : List ℕ) (found : List (List (ℕ × ℕ))) (s : ℕ) (xs : List (ℕ × ℕ))
      → EachFinds nfa text i ss found → Finds nfa text s i xs → EachFinds nfa text i (ss ++ s ∷ []) (found ++ xs ∷ [])
  each_more [] [] s xs h f = (f, tt)
  each_more [] (ys ∷ found) s xs h f = absurd h
  each_more (t ∷ ss) [] s xs h f = absurd h
  each_more (t ∷ ss) (ys ∷ found) s xs h f = (h.0, each_more ss found s xs h.1 f)

pub joined_none : (old new : BuilderValue) (ss : List ℕ) (s : ℕ) → length ss ≡ 0 → s ≡ length old.states
    → new ≡ with_node old Fail → IsJoined old new ss s
joined_none old new (t ∷ ss) s l e g = absurd (omega (arith, l))
joined_none old new [] s l e g = rw g (record {
  extends = grown old Fail;
  finds = λ nfa c text i. none_joins nfa text i s (is_new old Fail nfa c (λ y. let w : Fail ≡ Union [] = y in cc) s e);
})

pub joined_one : (b : BuilderValue) (ss : List ℕ) (s : ℕ) → length ss ≡ 1 → s ≡ slice_index_or ss 0 s
    → IsJoined b b ss s
joined_one b [] s l e = absurd (omega (arith, l))
joined_one b (t ∷ u ∷ ss) s l e = absurd (omega (arith, l))
joined_one b (t ∷ []) s l e =
    let z : s ≡ t = e in
    rw z (record { extends = extends_same b; finds = λ nfa c text i found h. one_joins nfa text i t found h })

pub joined_union : (old new : BuilderValue) (ss : List ℕ) (s : ℕ) → 1 < length ss → s ≡ length old.states
    → new ≡ with_node old (Union ss) → IsJoined old new ss s
joined_union old new [] s l e g = absurd (omega (arith, l))
joined_union old new (t ∷ ss) s l e g = rw g (record {
  extends = grown old (Union (t ∷ ss));
  finds = λ nfa c text i. union_joins nfa text i (t ∷ ss) s
      (is_new old (Union (t ∷ ss)) nfa c (λ y. let w : Union (t ∷ ss) ≡ Union [] = y in cc) s e);
})

-- the words of a list and then of another
record Split (xs ys : List (List ℕ × ℕ)) (leads : List (List ℕ × Lead)) : Type 0 where
  front : List (List ℕ × Lead)
  back : List (List ℕ × Lead)
  whole : leads ≡ front ++ back
  left : words_of front ≡ xs
  right : words_of back ≡ ys

split : (xs ys : List (List ℕ × ℕ)) (leads : List (List ℕ × Lead)) → words_of leads ≡ xs ++ ys → Split xs ys leads
split [] ys leads e = record { front = []; back = leads; whole = refl; left = refl; right = e }
split (x ∷ xs) ys [] e = absurd (cc)
split (x ∷ xs) ys (l ∷ leads) e =
    let first : (l.0, l.1.state) ≡ x = cc in
    let others : words_of leads ≡ xs ++ ys = cc in
    let rest = split xs ys leads others in
    record {
      front = l ∷ rest.front;
      back = rest.back;
      whole = ap (λ (ls : List (List ℕ × Lead)). l ∷ ls) rest.whole;
      left = cc (first, rest.left);
      right = rest.right;
    }

module _ (nfa : Nfa) (text : Text) (i : ℕ) where
  all_left : (a b : List (List ℕ × Lead)) → AllFind nfa text i (a ++ b) → AllFind nfa text i a
  all_left [] b h = tt
  all_left (l ∷ a) b h = (h.0, all_left a b h.1)

  all_right : (a b : List (List ℕ × Lead)) → AllFind nfa text i (a ++ b) → AllFind nfa text i b
  all_right [] b h = h
  all_right (l ∷ a) b h = all_right a b h.1

all_joined : (nfa : Nfa) (text : Text) (i : ℕ) (leads a b : List (List ℕ × Lead)) (found : List (List (ℕ × ℕ)))
    → leads ≡ a ++ b → flat_map (λ ys. ys) found ≡ all_found nfa text i a
    → flat_map (λ ys. ys) (found ++ all_found nfa text i b ∷ []) ≡ all_found nfa text i leads
all_joined nfa text i leads a b found w h = rw (
  w,
  flat_map-append (λ (ys : List (ℕ × ℕ)). ys) found (all_found nfa text i b ∷ []),
  append-nil (all_found nfa text i b),
  h,
)
    (sym (flat_map-append (λ (l : List ℕ × Lead). flat_map l.1.found (ends nfa.terminator text (literal l.0) i)) a b))

-- the states find together what the words find
pub record Found (nfa : Nfa) (text : Text) (i : ℕ) (ss : List ℕ) (xs : List (ℕ × ℕ)) : Type 0 where
  pub found : List (List (ℕ × ℕ))
  pub each : EachFinds nfa text i ss found
  pub is : flat_map (λ ys. ys) found ≡ xs

-- the words begin at these states, a part of them at each
pub record AreTrees (old new : BuilderValue) (words : List (List ℕ × ℕ)) (starts : List ℕ) : Type 0 where
  pub extends : Extends old new
  pub finds : (nfa : Nfa) → Continues new nfa → (text : Text) (leads : List (List ℕ × Lead)) → words_of leads ≡ words
      → (i : ℕ) → AllFind nfa text i leads → Found nfa text i starts (all_found nfa text i leads)

pub trees_none : (b : BuilderValue) → AreTrees b b [] []
trees_none b = record { extends = extends_same b; finds = λ nfa c text leads e i h. go nfa text i leads e }
  where
    go : (nfa : Nfa) (text : Text) (i : ℕ) (leads : List (List ℕ × Lead)) → words_of leads ≡ []
        → Found nfa text i [] (all_found nfa text i leads)
    go nfa text i [] e = record { found = []; each = tt; is = refl }
    go nfa text i (l ∷ leads) e = absurd (cc)

pub trees_more : (old mid new : BuilderValue) (words more : List (List ℕ × ℕ)) (starts : List ℕ) (s : ℕ)
    → AreTrees old mid words starts → IsTree mid new more s → AreTrees old new (words ++ more) (starts ++ s ∷ [])
trees_more old mid new words more starts s h f = record {
  extends = extends_then old mid new h.extends f.extends;
  finds = λ nfa c text leads e i g.
      let parts = split words more leads e in
      let all : AllFind nfa text i (parts.front ++ parts.back) = rw parts.whole at g in
      let first = h.finds nfa (continues_old mid new f.extends nfa c) text parts.front parts.left i
      (all_left nfa text i parts.front parts.back all) in
      let last = f.finds nfa c text parts.back parts.right i (all_right nfa text i parts.front parts.back all) in
      let found_last : List (ℕ × ℕ) = all_found nfa text i parts.back in
      record {
        found = first.found ++ found_last ∷ [];
        each = each_more nfa text i starts first.found s found_last first.each last;
        is = all_joined nfa text i leads parts.front parts.back first.found parts.whole first.is;
      };
}

pub tree_joined : (old mid new : BuilderValue) (words : List (List ℕ × ℕ)) (starts : List ℕ) (s : ℕ)
    → AreTrees old mid words starts → IsJoined mid new starts s → IsTree old new words s
tree_joined old mid new words starts s h f = record {
  extends = extends_then old mid new h.extends f.extends;
  finds = λ nfa c text leads e i g.
      let k = h.finds nfa (continues_old mid new f.extends nfa c) text leads e i g in
      rw k.is at (f.finds nfa c text i k.found k.each);
}

-- one word
pub word_tree : (old new : BuilderValue) (bytes : List ℕ) (next s : ℕ) → IsBegun old new (literal bytes) next s
    → IsTree old new ((bytes, next) ∷ []) s
word_tree old new bytes next s h =
    record { extends = h.extends; finds = λ nfa c text leads e i g. go nfa c text leads e i g }
  where
    go : (nfa : Nfa) → Continues new nfa → (text : Text) (leads : List (List ℕ × Lead))
        → words_of leads ≡ (bytes, next) ∷ [] → (i : ℕ) → AllFind nfa text i leads
        → Finds nfa text s i (all_found nfa text i leads)
    go nfa c text [] e i g = absurd (cc)
    go nfa c text (l ∷ k ∷ leads) e i g = absurd (let z : words_of (k ∷ leads) ≡ [] = cc in cc)
    go nfa c text (l ∷ []) e i g =
        let word : (l.0, l.1.state) ≡ (bytes, next) = cc in
        let read : l.0 ≡ bytes = ap (λ (w : List ℕ × ℕ). w.0) word in
        let state : l.1.state ≡ next = ap (λ (w : List ℕ × ℕ). w.1) word in
        rw (read, append-nil (flat_map l.1.found (ends nfa.terminator text (literal bytes) i)))
        (h.entry nfa c text i l.1.found (λ j d. rw (if_same (nat_lt i j) next)
        (rw state at (g.0 j (rw read d)))))

-- the byte that is next
is_one : (c b : ℕ) → is_in ((c, c) ∷ []) (Some b) ≡ nat_eq c b
is_one c b = by_test (nat_eq c b)
    (λ e. rw e (grind (arith, nat_tests)))
    (λ e. rw e (grind (arith, nat_tests)))

module _ (t : ℕ) (text : Text) where
  abbrev E : List ℕ → ℕ → List ℕ
  E w = ends t text (literal w)

  ends_first : (c b : ℕ) (w : List ℕ) (i : ℕ) → slice_get text.bytes i ≡ Some b
      → E (c ∷ w) i ≡ cond (nat_eq c b) (E w (suc i)) []
  ends_first c b w i e = rw (e, is_one c b) (by_test (nat_eq c b)
      (λ z. rw z (append-nil (E w (suc i))))
      (λ z. rw z refl))

  ends_past : (c : ℕ) (w : List ℕ) (i : ℕ) → slice_get text.bytes i ≡ None → E (c ∷ w) i ≡ []
  ends_past c w i e = rw e refl

  -- a word reads its prefix first
  ends_prefix : (p w : List ℕ) (i : ℕ) → take (length p) w ≡ p
      → E w i ≡ flat_map (E (drop (length p) w)) (E p i)
  ends_prefix [] w i e = sym (append-nil (E w i))
  ends_prefix (b ∷ p) [] i e = absurd (cc)
  ends_prefix (b ∷ p) (c ∷ w) i e =
      let same : c ≡ b = cc in
      let rest : take (length p) w ≡ p = cc in
      rw same (flat_map_same (E w) (λ j. flat_map (E (drop (length p) w)) (E p j)) (ends t text (Byte ((b, b) ∷ [])) i)
      (λ j k. ends_prefix p w j rest)
      ∙ sym (flat_map-flat_map (E (drop (length p) w)) (E p) (ends t text (Byte ((b, b) ∷ [])) i)))

  -- there is one end at most
  ends_once : (p : List ℕ) (i : ℕ) → (E p i ≡ []) ⊎ ((j : ℕ) × (E p i ≡ j ∷ []))
  ends_once [] i = inr (i, refl)
  ends_once (c ∷ p) i = by_option (slice_get text.bytes i)
      (λ e. inl (ends_past c p i e))
      (λ b e. by_test (nat_eq c b)
      (λ z. let same : E (c ∷ p) i ≡ E p (suc i) = ends_first c b p i e ∙ rw z refl in
      by_cases (ends_once p (suc i))
      (λ k. inl (same ∙ k))
      (λ k. inr (k.0, same ∙ k.1)))
      (λ z. inl (ends_first c b p i e ∙ rw z refl)))

-- the words without their first n bytes
abbrev short : {X : Type 0} → ℕ → List (List ℕ × X) → List (List ℕ × X)
short n ws = map (λ w. (drop n w.0, w.1)) ws

short_words : (n : ℕ) (leads : List (List ℕ × Lead)) → words_of (short n leads) ≡ short n (words_of leads)
short_words n [] = refl
short_words n (l ∷ leads) = rw (short_words n leads) refl

-- the words that begin with a byte
rests_words : (b : ℕ) (leads : List (List ℕ × Lead)) → words_of (rests_after b leads) ≡ rests_after b (words_of leads)
rests_words b [] = refl
rests_words b (([], l) ∷ leads) = rests_words b leads
rests_words b ((c ∷ w, l) ∷ leads) = by_test (nat_eq c b)
    (λ e. rw (e, rests_words b leads) refl)
    (λ e. rw (e, rests_words b leads) refl)

no_words : (leads : List (List ℕ × Lead)) → words_of leads ≡ [] → leads ≡ []
no_words [] e = refl
no_words (l ∷ leads) e = absurd (cc)

module _ (nfa : Nfa) (text : Text) (i : ℕ) where
  abbrev F : ℕ → List (List ℕ × Lead) → List (ℕ × ℕ)
  F j leads = all_found nfa text j leads

  -- after a prefix that all words have
  none_after : (p : List ℕ) (leads : List (List ℕ × Lead))
      → ((l : List ℕ × Lead) → In l leads → take (length p) l.0 ≡ p) → ends nfa.terminator text (literal p) i ≡ []
      → F i leads ≡ []
  none_after p [] h e = refl
  none_after p (l ∷ leads) h e =
      let none : ends nfa.terminator text (literal l.0) i ≡ [] =
      ends_prefix nfa.terminator text p l.0 i (h l (In_head l leads)) ∙ rw e refl in
      rw (none, none_after p leads (λ k m. h k (In_tail k l leads m)) e) refl

  all_after : (p : List ℕ) (j : ℕ) (leads : List (List ℕ × Lead))
      → ((l : List ℕ × Lead) → In l leads → take (length p) l.0 ≡ p) → ends nfa.terminator text (literal p) i ≡ j ∷ []
      → F i leads ≡ F j (short (length p) leads)
  all_after p j [] h e = refl
  all_after p j (l ∷ leads) h e =
      let same : ends nfa.terminator text (literal l.0) i ≡ ends nfa.terminator text (literal (drop (length p) l.0)) j =
      ends_prefix nfa.terminator text p l.0 i (h l (In_head l leads)) ∙ rw e (append-nil _) in
      rw (same, all_after p j leads (λ k m. h k (In_tail k l leads m)) e) refl

  find_after : (p : List ℕ) (j : ℕ) (leads : List (List ℕ × Lead))
      → ((l : List ℕ × Lead) → In l leads → take (length p) l.0 ≡ p) → ends nfa.terminator text (literal p) i ≡ j ∷ []
      → AllFind nfa text i leads → AllFind nfa text j (short (length p) leads)
  find_after p j [] h e g = tt
  find_after p j (l ∷ leads) h e g =
      let same : ends nfa.terminator text (literal l.0) i ≡ ends nfa.terminator text (literal (drop (length p) l.0)) j =
      ends_prefix nfa.terminator text p l.0 i (h l (In_head l leads)) ∙ rw e (append-nil _) in
      (λ k c. g.0 k (rw same c), find_after p j leads (λ k m. h k (In_tail k l leads m)) e g.1)

  -- over the next byte
  all_past : (leads : List (List ℕ × Lead)) → ((l : List ℕ × Lead) → In l leads → 0 < length l.0)
      → slice_get text.bytes i ≡ None → F i leads ≡ []
  all_past [] h e = refl
  all_past (([], l) ∷ leads) h e = absurd (let z : 0 < 0 = h ([], l) (In_head ([], l) leads) in omega (arith, z))
  all_past ((c ∷ w, l) ∷ leads) h e =
      rw (ends_past nfa.terminator text c w i e, all_past leads (λ k m. h k (In_tail k (c ∷ w, l) leads m)) e) refl

  all_over : (b : ℕ) (leads : List (List ℕ × Lead)) → ((l : List ℕ × Lead) → In l leads → 0 < length l.0)
      → slice_get text.bytes i ≡ Some b → F i leads ≡ F (suc i) (rests_after b leads)
  all_over b [] h e = refl
  all_over b (([], l) ∷ leads) h e = absurd (let z : 0 < 0 = h ([], l) (In_head ([], l) leads) in omega (arith, z))
  all_over b ((c ∷ w, l) ∷ leads) h e =
      let rest = all_over b leads (λ k m. h k (In_tail k (c ∷ w, l) leads m)) e in
      by_test (nat_eq c b)
      (λ z. rw (ends_first nfa.terminator text c b w i e, z, rest) refl)
      (λ z. rw (ends_first nfa.terminator text c b w i e, z, rest) refl)

  find_over : (b : ℕ) (leads : List (List ℕ × Lead)) → slice_get text.bytes i ≡ Some b → AllFind nfa text i leads
      → AllFind nfa text (suc i) (rests_after b leads)
  find_over b [] e g = tt
  find_over b (([], l) ∷ leads) e g = find_over b leads e g.1
  find_over b ((c ∷ w, l) ∷ leads) e g = by_test (nat_eq c b)
      (λ z.
      let same : ends nfa.terminator text (literal (c ∷ w)) i ≡ ends nfa.terminator text (literal w) (suc i) =
      ends_first nfa.terminator text c b w i e ∙ rw z refl in
      rw z (λ k d. g.0 k (rw same d), find_over b leads e g.1))
      (λ z. rw z (find_over b leads e g.1))

-- each lead of words that share a fact
each_lead : (P : List ℕ × ℕ → Type 0) (words : List (List ℕ × ℕ)) (leads : List (List ℕ × Lead)) → All P words
    → words_of leads ≡ words → (l : List ℕ × Lead) → In l leads → P (l.0, l.1.state)
each_lead P words leads h e l m = All_at P words h (l.0, l.1.state)
    (rw e at (In_map {B = List ℕ × ℕ} (λ (w : List ℕ × Lead). (w.0, w.1.state)) l leads m))

-- a prefix in front of what is left of the words
pub prefix_tree : (old mid new : BuilderValue) (p : List ℕ) (words left : List (List ℕ × ℕ)) (next s : ℕ)
    → All (SharesPrefix p) words → left ≡ short (length p) words → IsTree old mid left next
    → IsBegun mid new (literal p) next s → IsTree old new words s
prefix_tree old mid new p words left next s shares is h f = record {
  extends = extends_then old mid new h.extends f.extends;
  finds = λ nfa c text leads e i g.
      let shared : (l : List ℕ × Lead) → In l leads → take (length p) l.0 ≡ p =
      λ l m. each_lead (SharesPrefix p) words leads shares e l m in
      let after : words_of (short (length p) leads) ≡ left = short_words (length p) leads ∙ rw e (sym is) in
      by_cases (ends_once nfa.terminator text p i)
      (λ k. rw (none_after nfa text i p leads shared k)
      (rw k at (f.entry nfa c text i (λ j. []) (λ j d. absurd (no_end j (rw k at d))))))
      (λ k. rw (all_after nfa text i p k.0 leads shared k.1)
      (go nfa c text i leads k.0 k.1
      (h.finds nfa (continues_old mid new f.extends nfa c) text (short (length p) leads) after k.0
      (find_after nfa text i p k.0 leads shared k.1 g))));
}
  where
    no_end : (j : ℕ) → Contains [] j → ⊥
    no_end j d = In_none j (In_from_Contains [] j d)

    go : (nfa : Nfa) → Continues new nfa → (text : Text) (i : ℕ) (leads : List (List ℕ × Lead)) (j : ℕ)
        → ends nfa.terminator text (literal p) i ≡ j ∷ []
        → Finds nfa text next j (all_found nfa text j (short (length p) leads))
        → Finds nfa text s i (all_found nfa text j (short (length p) leads))
    go nfa c text i leads j e d =
        let Z : ℕ → List (ℕ × ℕ) = λ m. all_found nfa text m (short (length p) leads) in
        let found : Finds nfa text s i (flat_map Z (ends nfa.terminator text (literal p) i)) =
        f.entry nfa c text i Z (λ m k. In_cases m j [] (In_from_Contains (j ∷ []) m (rw e at k))
        (λ q. rw (if_same (nat_lt i m) next, q) d) (λ q. In_none m q)) in
        let one : Finds nfa text s i (Z j ++ []) = rw e at found in
        rw (append-nil (Z j)) at one

-- the target of the transitions on a byte
abbrev pub next_at : ℕ → List Transition → Option ℕ
next_at b ts = option_map (λ (t : Transition). t.next) (find (λ t. within t.start t.end b) ts)

-- no word begins with the byte, or there is a transition on it to what is left of those that do
abbrev ArmAt : BuilderValue → BuilderValue → List (List ℕ × ℕ) → List Transition → ℕ → Type 0
ArmAt old new words ts b = ((next_at b ts ≡ None) × (rests_after b words ≡ []))
    ⊎ ((s : ℕ) × (next_at b ts ≡ Some s) × IsTree old new (rests_after b words) s)

-- the transitions are right on the bytes below n, and there are no others
pub record AreArms (old new : BuilderValue) (words : List (List ℕ × ℕ)) (n : ℕ) (ts : List Transition) : Type 0 where
  pub extends : Extends old new
  pub below : (b : ℕ) → b < n → ArmAt old new words ts b
  pub above : (b : ℕ) → n ≤ b → next_at b ts ≡ None

pub arms_none : (b : BuilderValue) (words : List (List ℕ × ℕ)) → AreArms b b words 0 []
arms_none b words = record {
  extends = extends_same b;
  below = λ n l. absurd (omega (arith, l));
  above = λ n l. refl;
}

-- more transitions come after the others
pub next_more : (b : ℕ) (ts us : List Transition)
    → ((s : ℕ) → next_at b ts ≡ Some s → next_at b (ts ++ us) ≡ Some s)
    × (next_at b ts ≡ None → next_at b (ts ++ us) ≡ next_at b us)
next_more b [] us = (λ s e. absurd (cc), λ e. refl)
next_more b (t ∷ ts) us = by_test (within t.start t.end b)
    (λ z. rw z (λ s e. e, λ e. absurd (cc)))
    (λ z. rw z (next_more b ts us))

later_tree : (old mid new : BuilderValue) (words : List (List ℕ × ℕ)) (s : ℕ) → Extends mid new
    → IsTree old mid words s
    → IsTree old new words s
later_tree old mid new words s f h = record {
  extends = extends_then old mid new h.extends f;
  finds = λ nfa c text leads e i g. h.finds nfa (continues_old mid new f nfa c) text leads e i g;
}

earlier_tree : (old mid new : BuilderValue) (words : List (List ℕ × ℕ)) (s : ℕ) → Extends old mid
    → IsTree mid new words s
    → IsTree old new words s
earlier_tree old mid new words s f h = record {
  extends = extends_then old mid new f h.extends;
  finds = λ nfa c text leads e i g. h.finds nfa c text leads e i g;
}

pub arms_more : (old mid new : BuilderValue) (words : List (List ℕ × ℕ)) (n byte : ℕ) (ts : List Transition) (s : ℕ)
    → AreArms old mid words n ts → n ≤ byte → ((b : ℕ) → n ≤ b → b < byte → rests_after b words ≡ [])
    → IsTree mid new (rests_after byte words) s
    → AreArms old new words (byte + 1) (ts ++ record { start = byte; end = byte; next = s } ∷ [])
arms_more old mid new words n byte ts s h low between f = record {
  extends = extends_then old mid new h.extends f.extends;
  below = λ b l. by_test (nat_lt b n)
      (λ z. let q : b < n = ltb-true b n z in kept b (h.below b q) (other b (omega (arith, q, low))))
      (λ z. let q : n ≤ b = ltb-false b n z in by_test (nat_eq b byte)
      (λ y. let same : b ≡ byte = grind (arith, nat_tests) in
      inr (s, at b (h.above b q) same, rw same (earlier_tree old mid new (rests_after byte words) s h.extends f)))
      (λ y. let less : b < byte = grind (arith, nat_tests) in
      inl (past b (h.above b q) (other b less), between b q less)));
  above = λ b l. past b (h.above b (omega (arith, l, low))) (outside b l);
}
  where
    t : Transition
    t = record { start = byte; end = byte; next = s }

    other : (b : ℕ) → b < byte → within byte byte b ≡ false
    other b l = grind (arith, nat_tests)

    outside : (b : ℕ) → byte + 1 ≤ b → within byte byte b ≡ false
    outside b l = grind (arith, nat_tests)

    inside : within byte byte byte ≡ true
    inside = grind (arith, nat_tests)

    past : (b : ℕ) → next_at b ts ≡ None → within byte byte b ≡ false → next_at b (ts ++ t ∷ []) ≡ None
    past b e z = (next_more b ts (t ∷ [])).1 e ∙ rw z refl

    at : (b : ℕ) → next_at b ts ≡ None → b ≡ byte → next_at b (ts ++ t ∷ []) ≡ Some s
    at b e z = (next_more b ts (t ∷ [])).1 e ∙ rw (z, inside) refl

    kept : (b : ℕ) → ArmAt old mid words ts b → within byte byte b ≡ false → ArmAt old new words (ts ++ t ∷ []) b
    kept b a z = by_cases a
        (λ k. inl (past b k.0 z, k.1))
        (λ k. inr (
          k.0,
          (next_more b ts (t ∷ [])).0 k.0 k.1,
          later_tree old mid new (rests_after b words) k.0 f.extends k.2,
        ))

-- a state with these transitions
pub sparse_tree : (old mid new : BuilderValue) (words : List (List ℕ × ℕ)) (n : ℕ) (ts : List Transition) (s : ℕ)
    → AreArms old mid words n ts → ((b : ℕ) → n ≤ b → rests_after b words ≡ []) → All HasByte words
    → s ≡ length mid.states → new ≡ with_node mid (Sparse ts) → IsTree old new words s
sparse_tree old mid new words n ts s h none some is g = rw g (record {
  extends = extends_then old mid (with_node mid (Sparse ts)) h.extends (grown mid (Sparse ts));
  finds = λ nfa c text leads e i f. go nfa c text leads e i f;
})
  where
    go : (nfa : Nfa) → Continues (with_node mid (Sparse ts)) nfa → (text : Text) (leads : List (List ℕ × Lead))
        → words_of leads ≡ words → (i : ℕ) → AllFind nfa text i leads
        → Finds nfa text s i (all_found nfa text i leads)
    go nfa c text leads e i f =
        let node : state_at nfa s ≡ Sparse ts
        = is_new mid (Sparse ts) nfa c (λ y. let w : Sparse ts ≡ Union [] = y in cc) s is in
        let label = unlabelled nfa text s i (Sparse ts) node refl in
        let some_byte : (l : List ℕ × Lead) → In l leads → 0 < length l.0 =
        λ l m. each_lead HasByte words leads some e l m in
        let rests : (b : ℕ) → words_of (rests_after b leads) ≡ rests_after b words =
        λ b. rests_words b leads ∙ ap (rests_after b) e in
        by_option (slice_get text.bytes i)
        (λ z. rw (all_past nfa text i leads some_byte z) (rw label at
        (list_none (choices nfa text) (matched nfa) (i, s) (next_of nfa text s i (Sparse ts) node ∙ rw z refl))))
        (λ b z. rw (all_over nfa text i b leads some_byte z) (by_cases (arm b)
        (λ k. rw (no_words (rests_after b leads) (rests b ∙ k.1)) (rw label at
        (list_none (choices nfa text) (matched nfa) (i, s)
        (next_of nfa text s i (Sparse ts) node ∙ rw (z, k.0) refl))))
        (λ k. list_one (choices nfa text) (matched nfa) (i, s) (suc i, k.0)
        (all_found nfa text (suc i) (rests_after b leads))
        (next_of nfa text s i (Sparse ts) node ∙ rw (z, k.1) refl) label
        (k.2.finds nfa (continues_old mid (with_node mid (Sparse ts)) (grown mid (Sparse ts)) nfa c) text
        (rests_after b leads) (rests b) (suc i) (find_over nfa text i b leads z f)))))
      where
        arm : (b : ℕ) → ArmAt old mid words ts b
        arm b = by_test (nat_lt b n)
            (λ z. h.below b (ltb-true b n z))
            (λ z. let q : n ≤ b = ltb-false b n z in inl (h.above b q, none b q))

-- the words from a later place
pub words_later : (place n : ℕ) (words : List (Bor (List ℕ × ℕ)))
    → words_from (place + n) words ≡ short n (words_from place words)
words_later place n [] = refl
words_later place n (w ∷ words) =
    let same : drop (place + n) w.now.0 ≡ drop n (drop place w.now.0) = sym (drop-drop n place w.now.0) in
    rw (same, words_later place n words) refl

pub no_tree : (old new : BuilderValue) (place : ℕ) (words : List (Bor (List ℕ × ℕ))) (s : ℕ) → length words ≡ 0
    → s ≡ length old.states → new ≡ with_node old Fail → IsTree old new (words_from place words) s
no_tree old new place (w ∷ words) s l e g = absurd (omega (arith, l))
no_tree old new place [] s l e g =
    tree_joined old old new [] [] s (trees_none old) (joined_none old new [] s refl e g)

pub group_tree : (old mid new : BuilderValue) (bytes : List ℕ) (count place : ℕ) (words : List (Bor (List ℕ × ℕ)))
    (next s : ℕ) → count ≤ length bytes → All (SharesPrefix (take count bytes)) (words_from place words)
    → IsTree old mid (words_from (place + count) words) next → IsBegun mid new (literal (take count bytes)) next s
    → IsTree old new (words_from place words) s
group_tree old mid new bytes count place words next s l shares h f =
    let long : length (take count bytes) ≡ count = length-take-le count bytes l in
    prefix_tree old mid new (take count bytes) (words_from place words) (words_from (place + count) words) next s shares
    (rw long (words_later place count words)) h f
