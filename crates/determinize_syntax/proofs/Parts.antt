-- Parts of a text.
-- Main statements: took, onward, renamed, prefixed, closed.
-- Used by: most proofs of this crate, through Common.
-- Idea: a part after a part is a part; what ends with a byte is a part and the byte.
use Rattle.std.proofs.Common.{◌++◌, ◌+◌, ◌<◌, ◌∙◌, ◌∷◌, ◌≡◌, List, [], ap, append_assoc, arith, length, length-append}
use Rattle.std.proofs.Common.{refl, sym, ℕ}
use Rattle.std.specs.Prelude.{Err, IfOk, Ok, OnOk, Result}
use Rattle.determinize_syntax.specs.Private.Reading.{Part}

abbrev pub Text : Type 0
Text = List ℕ

pub ok_then : {A E : Type 0} (P Q : A → Type 0) (r : Result A E) → IfOk r P → ((a : A) → P a → Q a) → IfOk r Q
ok_then P Q (Ok a) h f = f a h
ok_then P Q (Err e) h f = h

pub on_ok : {A E : Type 0} (P Q : Type 0) (r : Result A E) → OnOk r P → (P → Q) → OnOk r Q
on_ok P Q (Ok a) h f = f h
on_ok P Q (Err e) h f = h

-- one byte was passed
pub took : {a b : Text} {c : ℕ} (P : Text → Type 0) → a ≡ c ∷ b → P (c ∷ []) → Part a b P
took {a} {b} {c} P r p = (c ∷ [], r, p)

-- a part after a part
pub onward : {a b d : Text} (P Q R : Text → Type 0) → Part a b P → Part b d Q
    → ((t u : Text) → P t → Q u → R (t ++ u)) → Part a d R
onward {d = d} P Q R h k f =
    (h.0 ++ k.0, h.1 ∙ ap (λ x. h.0 ++ x) k.1 ∙ sym (append_assoc h.0 k.0 d), f h.0 k.0 h.2 k.2)

pub renamed : {a b : Text} (P Q : Text → Type 0) → Part a b P → ((t : Text) → P t → Q t) → Part a b Q
renamed P Q h f = (h.0, h.1, f h.0 h.2)

-- with the byte before it
pub prefixed : {a b d : Text} {c : ℕ} (P : Text → Type 0) → a ≡ c ∷ b → Part b d (λ t. P (c ∷ t)) → Part a d P
prefixed {c = c} P r k = (c ∷ k.0, r ∙ ap (λ w. c ∷ w) k.1, k.2)

-- with the byte after it
pub closed : {a b d : Text} {c : ℕ} (P Q : Text → Type 0) → Part a b P → b ≡ c ∷ d
    → ((t : Text) → P t → Q (t ++ c ∷ [])) → Part a d Q
closed {c = c} P Q h r f = onward P (λ v. v ≡ c ∷ []) Q h (took (λ v. v ≡ c ∷ []) r refl) (λ t v p e. rw e (f t p))

pub part_shorter : {a b d : Text} {c : ℕ} (P : Text → Type 0) → a ≡ c ∷ b → Part b d P → length d < length a
part_shorter {a} {b} {d} P r h =
    let whole : length a ≡ 1 + length b = ap length r ∙ omega arith in
    let parts : length b ≡ length h.0 + length d = ap length h.1 ∙ length-append h.0 d in
    omega arith
