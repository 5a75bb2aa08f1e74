-- The openings and the names in what was read.
-- Main statements: operator_opens, passes_part, passes_then, right_after, local_limits, name_added, name_twice.
-- Used by: the proofs that the errors at a limit are right.
-- Idea: openings are counted, so those of two parts are added; a name that was read is in the part before the place.
use Rattle.determinize_syntax.proofs.Common.{◌++◌, ◌+◌, ◌-◌, ◌<◌, ◌∈◌, ◌∙◌, ◌∷◌, ◌≡◌, ◌≤◌, All-nil, Bool, Bytes}
use Rattle.determinize_syntax.proofs.Common.{HasNameTwice, List, NEST_LIMIT, Operator, Option, Part, Passes, [], ap}
use Rattle.determinize_syntax.proofs.Common.{append-nil, append_assoc, arith, bracketed, codes, cond, false, is_name}
use Rattle.determinize_syntax.proofs.Common.{list_any, not, openings, refl, subst, sym, true, ℕ}
use Rattle.std.proofs.Common.{All}
use Rattle.std.specs.Prelude.{Err, IfErr, IfOk, MatchResult, Ok, Result, max}
use Rattle.std.specs.Bool.{⊤}
use Rattle.std.specs.Cmp.Lexicographic.{slice_cmp}
use Rattle.std.specs.declared.cmp.Ordering.{Ordering}
use Rattle.std.specs.declared.cmp.Ordering.TheVariants.{Equal, Greater, Less}
use Rattle.std.specs.BTreeSet.{insert_key}
use Rattle.std.specs.Ordering.{is_eq, nat_cmp}
use Rattle.std.proofs.lemmas.List.Elements.{All-weaker}
use Rattle.std.proofs.lemmas.List.Folds.{Any-from_list_any}
use Rattle.std.proofs.lemmas.List.Sums.{sum_by-append}
use Rattle.std.proofs.lemmas.Map.Lookups.{exact_bytes}
use Rattle.std.proofs.lemmas.Map.Views.{All-insert_key}
use Rattle.determinize_syntax.specs.Private.Names.{HasName, HasNames, IsRight, is_local}
use Rattle.determinize_syntax.specs.declared.error.ErrorKind.TheVariants.{GroupNameDuplicate, NestLimitExceeded}
use Rattle.determinize_syntax.specs.declared.error.Rejection.{Rejection}
use Rattle.determinize_syntax.specs.declared.group.Context.{Context}
use Rattle.determinize_syntax.specs.Spells as s

-- an error that is local is none of a limit
pub local_right : (levels : ℕ) (c : Context) (a : Bytes) (e : Rejection) → is_local e.kind ≡ true
    → IsRight levels c a e
local_right levels c a e local = record {
  nested = λ is few. (let never : is_local NestLimitExceeded ≡ true = rw is at local in absurd (cc));
  twice = λ is text h. (let never : is_local GroupNameDuplicate ≡ true = rw is at local in absurd (cc));
}

pub openings_after : (t u : Bytes) → openings u ≤ openings (t ++ u)
openings_after t u =
    let sum : openings (t ++ u) ≡ openings t + openings u = sum_by-append (λ c. cond (c ∈ "(*+?{") 1 0) t u in
    omega (arith, sum)

pub one_more : (c : ℕ) (u : Bytes) → (c ∈ "(*+?{") ≡ true → openings (c ∷ u) ≡ 1 + openings u
one_more c u is =
    let sum : openings (c ∷ u) ≡ openings (c ∷ []) + openings u =
    sum_by-append (λ d. cond (d ∈ "(*+?{") 1 0) (c ∷ []) u in
    let one : openings (c ∷ []) ≡ 1 = ap (λ (b : Bool). 0 + cond b 1 0) is in
    omega (arith, sum, one)

-- there are no more openings behind a part
pub openings_left : {a b : Bytes} {P : Bytes → Type 0} → Part a b P → openings b ≤ openings a
openings_left {a} {b} {P} part = subst (λ l. openings b ≤ openings l) (sym part.1) (openings_after part.0 b)

-- an operator begins with an opening
pub operator_opens : (min : ℕ) (max : Option ℕ) (t : Bytes) → Operator min max t → (u : Bytes)
    → openings u < openings (t ++ u)
operator_opens _ _ _ s.star u = omega (arith, one_more 0x2A u refl)
operator_opens _ _ _ s.plus u = omega (arith, one_more 0x2B u refl)
operator_opens _ _ _ s.query u = omega (arith, one_more 0x3F u refl)
operator_opens _ _ _ (s.exactly n t is small) u =
    omega (arith, one_more 0x7B (t ++ codes "}" ++ u) refl, openings_after (t ++ codes "}") u)
operator_opens _ _ _ (s.at_least n t is small) u =
    omega (arith, one_more 0x7B (t ++ codes ",}" ++ u) refl, openings_after (t ++ codes ",}") u)
operator_opens _ _ _ (s.between n m t v is js le small) u = omega (
  arith,
  one_more 0x7B (t ++ codes "," ++ v ++ codes "}" ++ u) refl,
  openings_after (t ++ codes "," ++ v ++ codes "}") u,
)

pub operator_left : {a b : Bytes} (min : ℕ) (max : Option ℕ) → Part a b (Operator min max) → openings b < openings a
operator_left {a} {b} min max part =
    subst (λ l. openings b < openings l) (sym part.1) (operator_opens min max part.0 part.2 b)

name_moved : (read t name : Bytes) → HasName read name → HasName (read ++ t) name
name_moved read t name h =
    (h.0, h.1 ++ t, h.2, ap (λ l. l ++ t) h.3 ∙ append_assoc (h.0 ++ bracketed name) h.1 t)

-- nothing was read yet
pub passes_none : (c : Context) (a : Bytes) → Passes c a 0 c a
passes_none c a = record { deep = omega arith; named = λ text h. h }

-- more is read without a group or an operator
pub passes_part : {x y : Context} {a b d : Bytes} {n : ℕ} {P : Bytes → Type 0} → Passes x a n y b → Part b d P
    → Passes x a n y d
passes_part {y = y} {d = d} h part = record {
  deep = (let before = h.deep in let left = openings_left part in omega (arith, before, left));
  named = λ text names. (let t = h.named text names in (
    t.0 ++ part.0,
    t.1 ∙ ap (λ l. t.0 ++ l) part.1 ∙ sym (append_assoc t.0 part.0 d),
    All-weaker _ _ (λ name is. name_moved t.0 part.0 name.now is) y.names.keys t.2,
  ));
}

-- after one more byte
pub passes_byte : {x y : Context} {a b d : Bytes} {n : ℕ} (c : ℕ) → Passes x a n y b → b ≡ c ∷ d → Passes x a n y d
passes_byte c h e = passes_part {P = λ t. ⊤} h (c ∷ [], e, tt)

-- a part after a part is as deep as the deeper one
pub passes_then : {x y z : Context} {a b d : Bytes} {m n l : ℕ} → Passes x a m y b → Passes y b n z d → l ≡ max n m
    → Passes x a l z d
passes_then h k is = record {
  deep = (let before = h.deep in let after = k.deep in omega (arith, is, before, after));
  named = λ text names. k.named text (h.named text names);
}

-- an operator more, after which the names are the same
pub passes_operator : {x y z : Context} {a b d : Bytes} {n : ℕ} (min : ℕ) (max : Option ℕ) → Passes x a n y b
    → Part b d (Operator min max) → ((text : Bytes) → HasNames text y d → HasNames text z d) → Passes x a (n + 1) z d
passes_operator min max h part same = record {
  deep = (let before = h.deep in omega (arith, before, operator_left min max part));
  named = λ text names. same text ((passes_part h part).named text names);
}

-- an error after what was read
pub right_after : {x y : Context} {a b : Bytes} {n levels : ℕ} {e : Rejection} → Passes x a n y b
    → IsRight levels y b e → IsRight levels x a e
right_after h right = record {
  nested = λ is few. (let deep = right.nested is few in let before = h.deep in omega (arith, deep, before));
  twice = λ is text names. right.twice is text (h.named text names);
}

-- an error of the depth, if more than `levels` groups and operators begin
pub deep_right : {levels : ℕ} {c : Context} {a : Bytes} {e : Rejection} → e.kind ≡ NestLimitExceeded
    → (levels ≤ NEST_LIMIT → levels < openings a) → IsRight levels c a e
deep_right deep more = record {
  nested = λ is few. more few;
  twice = λ is text h. (let never : NestLimitExceeded ≡ GroupNameDuplicate = sym deep ∙ is in absurd (cc));
}

-- the names are the same
pub passes_as : {x y z : Context} {a b : Bytes} {n : ℕ} → Passes x a n y b
    → ((text : Bytes) → HasNames text y b → HasNames text z b) → Passes x a n z b
passes_as h same = record { deep = h.deep; named = λ text names. same text (h.named text names) }

-- a group: what opens it, what is in it, and its end
pub passes_whole : {x y z w : Context} {r b d e : Bytes} {n : ℕ} → Passes x r 0 y b → Passes y b n z d → d ≡ 0x29 ∷ e
    → ((text : Bytes) → HasNames text z e → HasNames text w e) → Passes x (0x28 ∷ r) (n + 1) w e
passes_whole {x} {r = r} {n = n} opening inner close same = record {
  deep = (let outer = opening.deep in let deep = inner.deep in
      let left = openings_left {P = λ t. ⊤} (0x29 ∷ [], close, tt) in omega
      (arith, outer, deep, left, one_more 0x28 r refl));
  named = λ text names. same text ((passes_byte 0x29 (passes_then {l = n} opening inner (omega arith)) close).named text
      ((passes_byte 0x28 (passes_none x (0x28 ∷ r)) refl).named text names));
}

-- an error in a group
pub group_right : {x y : Context} {r b : Bytes} {n levels : ℕ} {e : Rejection} → Passes x r n y b
    → IsRight (levels - 1) y b e → IsRight levels x (0x28 ∷ r) e
group_right {x} {r = r} {levels = levels} opening right = record {
  nested = λ is few. (let deep = right.nested is (omega (arith, few)) in let outer = opening.deep in
      omega (arith, deep, outer, one_more 0x28 r refl));
  twice = λ is text names. right.twice is text (opening.named text
      ((passes_byte 0x28 (passes_none x (0x28 ∷ r)) refl).named text names));
}

-- a call that reads a part, whose errors are local, and which adds no name
pub local_limits : {A : Type 0} (a b : Bytes) (Q : A → Bytes → Type 0) (levels : ℕ) (x y : Context)
    (r : Result A Rejection) → IfOk r (λ p. Part a b (Q p)) → IfErr r (λ e. is_local e.kind ≡ true)
    → ((text : Bytes) → HasNames text x b → HasNames text y b)
    → MatchResult r (λ _. Passes x a 0 y b) (IsRight levels x a)
local_limits a b Q levels x y (Ok p) part local same = passes_as (passes_part (passes_none x a) part) same
local_limits a b Q levels x y (Err e) part local same = local_right levels x a e local

-- a byte that was passed if it was next
pub maybe : {a b : Bytes} (n : ℕ) (taken : Bool) → (taken ≡ true → a ≡ n ∷ b) → (taken ≡ false → b ≡ a)
    → Part a b (λ t. ⊤)
maybe n true read left = (n ∷ [], read refl, tt)
maybe n false read left = ([], sym (left refl), tt)

-- what was read before a name, with the name, and the text
pub read_name : {text a b t n after : Bytes} (read : Bytes) → text ≡ read ++ 0x3C ∷ a → a ≡ t ++ b → n ≡ t
    → b ≡ 0x3E ∷ after → text ≡ (read ++ bracketed n) ++ after
read_name {b = b} {n = n} {after = after} read e f same close =
    let there : (read ++ bracketed n) ++ after ≡ read ++ 0x3C ∷ (n ++ 0x3E ∷ after) =
    append_assoc read (bracketed n) after ∙ ap (λ l. read ++ 0x3C ∷ l) (append_assoc n (0x3E ∷ []) after) in
    e ∙ ap (λ l. read ++ 0x3C ∷ l) (f ∙ ap (λ w. w ++ b) (sym same) ∙ ap (λ l. n ++ l) close) ∙ sym there

module _ {K : Type 0} (bytes : K → Bytes) where
  pub name_added : (cmp : _) (keys : List K) (key : K) (read : Bytes) → is_name (bytes key) ≡ true
      → All (λ k. HasName read (bytes k)) keys
      → All (λ k. HasName (read ++ bracketed (bytes key)) (bytes k)) (insert_key cmp keys key)
  name_added cmp keys key read is h =
      All-insert_key cmp key (λ k. HasName (read ++ bracketed (bytes key)) (bytes k)) keys
      (All-weaker _ _ (λ k had. name_moved read (bracketed (bytes key)) (bytes k) had) keys h)
      (read, [], is, sym (append-nil (read ++ bracketed (bytes key))))

  -- a name that is among those before it is in two places
  pub name_twice : (test : K → Bool) (keys : List K) (key : K) (text read after : Bytes) → list_any test keys ≡ true
      → ((k : K) → test k ≡ true → bytes key ≡ bytes k) → text ≡ (read ++ bracketed (bytes key)) ++ after
      → All (λ k. HasName read (bytes k)) keys → HasNameTwice text
  name_twice test keys key text read after any same is h =
      let found = Any-from_list_any test keys any in
      let there : HasName read (bytes key) =
      subst (HasName read) (ap bytes found.3 ∙ sym (same found.1 found.4)) (h found.0 found.1 found.2) in (
        bytes key,
        there.0,
        there.1,
        after,
        there.2,
        is ∙ ap (λ l. l ++ bracketed (bytes key) ++ after) there.3,
      )

-- names that compare as equal
pub same_name : (a b : Bytes) → is_eq (slice_cmp nat_cmp a b) ≡ true → a ≡ b
same_name a b e = exact_bytes a b (equal (slice_cmp nat_cmp a b) e) where
  equal : (o : Ordering) → is_eq o ≡ true → o ≡ Equal
  equal Less e = absurd (cc)
  equal Equal e = refl
  equal Greater e = absurd (cc)

pub unnot : (b : Bool) → false ≡ not b → b ≡ true
unnot true e = refl
unnot false e = absurd (cc)

-- before anything is read
pub names_none : (text a : Bytes) (c : Context) → a ≡ text → c.names.keys ≡ [] → HasNames text c a
names_none text a c e none = (
  [],
  sym e,
  subst (λ keys. All (λ name. HasName [] name.now) keys) (sym none) (All-nil (λ name. HasName [] name.now)),
)
