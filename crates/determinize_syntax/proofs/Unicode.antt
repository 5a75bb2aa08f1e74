-- Patterns of texts that clear the flag `u` nowhere match only UTF-8 in a text that is UTF-8.
-- Main statements: choice_reads_characters.
-- Used by: characters_law.
-- Idea: what clears `u` in a part clears it in the whole, so the flag holds at each atom, and each atom matches UTF-8.
use Rattle.determinize_syntax.proofs.Common.{chosen}
use Rattle.determinize_syntax.proofs.Common.{◌&&◌, ◌++◌, ◌<◌, ◌||◌, ◌∈◌, ◌∙◌, ◌∷◌, ◌≡◌, ◌⊎◌, All-nil, Atom, Bool}
use Rattle.determinize_syntax.proofs.Common.{Branches, Bytes, Choice, Flags, IsClass, IsOneOf, IsScalar, IsUtf8-encode}
use Rattle.determinize_syntax.proofs.Common.{List, Re, Repeated, Set, Sets, Some, Wide, [], and_parts, ap}
use Rattle.determinize_syntax.proofs.Common.{append_assoc, arith, by_cases, choice_of, codes, cond, encode_utf8, false}
use Rattle.determinize_syntax.proofs.Common.{folded, inl, inr, is_ascii, knows_cases, not, not-true}
use Rattle.determinize_syntax.proofs.Common.{only, refl, sequence_of, set_flag, some_injective, subst, sym, true, ℕ}
use Rattle.std.proofs.lemmas.Bool.{and_from, false≢true, or_from, or_left, or_parts, or_right}
use Rattle.std.proofs.lemmas.List.Elements.{All-head, All-push}
use Rattle.std.specs.List.{All}
use Rattle.determinize_pattern.proofs.characters.Ascii.{ascii_reads}
use Rattle.determinize_pattern.proofs.characters.Boundaries.{choice_reads, class_reads, literal_reads, look_reads}
use Rattle.determinize_pattern.proofs.characters.Boundaries.{repeated_reads, sequence_reads}
use Rattle.determinize_pattern.specs.Characters.{ReadsCharacters}
use Rattle.determinize_syntax.specs.Spells.{Items}
use Rattle.determinize_syntax.specs.Unicode.{group_clears_u, clears_u, clears_unicode, has_u}
use Rattle.determinize_syntax.specs.Spells as s

-- where the second does not hold, neither does the first
unless : (x y : Bool) → (x ≡ true → y ≡ true) → y ≡ false → x ≡ false
unless true y f e = absurd (false≢true (sym e ∙ f refl))
unless false y f e = refl

or_more : (x y p q : Bool) → (x ≡ true → p ≡ true) → (y ≡ true → q ≡ true) → (x || y) ≡ true → (p || q) ≡ true
or_more true y p q f g h = ap (λ b. b || q) (f refl)
or_more false y true q f g h = refl
or_more false y false q f g h = g h

and_more : (x y q : Bool) → (y ≡ true → q ≡ true) → (x && y) ≡ true → (x && q) ≡ true
and_more true y q g h = g h
and_more false y q g h = h

has_more : (a b : Bytes) → has_u a ≡ true → has_u (a ++ b) ≡ true
has_more [] b h = absurd (false≢true h)
has_more (c ∷ a) b h =
    or_more (c ∈ "u") _ (c ∈ "u") _ (λ u. u) (and_more (c ∈ "imsRU") (has_u a) (has_u (a ++ b)) (has_more a b)) h

clears_more : (a b : Bytes) → clears_u a ≡ true → clears_u (a ++ b) ≡ true
clears_more [] b h = absurd (false≢true h)
clears_more (c ∷ a) b h = or_more (c ∈ "-" && has_u a) _ (c ∈ "-" && has_u (a ++ b)) _
    (and_more (c ∈ "-") (has_u a) (has_u (a ++ b)) (has_more a b))
    (and_more (c ∈ "imsRUu") (clears_u a) (clears_u (a ++ b)) (clears_more a b)) h

asks_more : (a b : Bytes) → group_clears_u a ≡ true → group_clears_u (a ++ b) ≡ true
asks_more [] b h = absurd (false≢true h)
asks_more (c ∷ a) b h = and_more (c ∈ "?") (clears_u a) (clears_u (a ++ b)) (clears_more a b) h

-- what clears the flag in a part clears it in the whole
parts_keep : (a b : Bytes) → clears_unicode (a ++ b) ≡ false → (clears_unicode a ≡ false) × (clears_unicode b ≡ false)
parts_keep [] b h = (refl, h)
parts_keep (c ∷ a) b h =
    let each = or_parts (c ∈ "(" && group_clears_u (a ++ b)) (clears_unicode (a ++ b)) h in
    let rest = parts_keep a b each.1 in
    let first : (c ∈ "(" && group_clears_u a) ≡ false = unless _ (c ∈ "(" && group_clears_u (a ++ b))
    (and_more (c ∈ "(") (group_clears_u a) (group_clears_u (a ++ b)) (asks_more a b)) each.0 in
    (or_from (c ∈ "(" && group_clears_u a) (clears_unicode a) first rest.0, rest.1)

-- the letter of a flag: of another one, or `u`
module _ (g h : Flags) (c : ℕ) (on : Bool) where
  abbrev IsLetter : Type 0
  IsLetter = ((c ∈ "imsRU" ≡ true) × (h.unicode ≡ g.unicode)) ⊎ ((c ∈ "u" ≡ true) × (h.unicode ≡ on))

  same_u : (f : Flags) → Some f ≡ Some h → h.unicode ≡ f.unicode
  same_u f e = sym (ap (λ (x : Flags). x.unicode) (some_injective f h e))

  letter_sets : set_flag g c on ≡ Some h → IsLetter
  letter_sets = chosen (c ∈ "i") _ _ (λ i e. inl (grind (arith, i), same_u _ e))
      (chosen (c ∈ "m") _ _ (λ i e. inl (grind (arith, i), same_u _ e))
      (chosen (c ∈ "s") _ _ (λ i e. inl (grind (arith, i), same_u _ e))
      (chosen (c ∈ "U") _ _ (λ i e. inl (grind (arith, i), same_u _ e))
      (chosen (c ∈ "R") _ _ (λ i e. inl (grind (arith, i), same_u _ e))
      (chosen (c ∈ "u") _ _ (λ i e. inr (i, same_u _ e)) (λ e. absurd (cc)))))))

-- what clears `u` after these letters clears it with them
abbrev LeadsOn : Bool → Bytes → Type 0
LeadsOn on t = (r : Bytes) → cond on (clears_u r) (has_u r) ≡ true → clears_u (t ++ r) ≡ true

-- the flags that hold after letters
record IsSet (on : Bool) (h : Flags) (t : Bytes) : Type 0 where
  pub leads : LeadsOn on t
  pub keeps : clears_u t ≡ false → h.unicode ≡ true

any_letter : (g h : Flags) (c : ℕ) (on : Bool) → IsLetter g h c on → c ∈ "imsRUu" ≡ true
any_letter g h c on k = by_cases k (λ l. grind (arith, l.0)) (λ l. grind (arith, l.0))

-- a letter in front of what clears `u`
in_front : (on : Bool) (g h : Flags) (c : ℕ) (r : Bytes) → IsLetter g h c on → cond on (clears_u r) (has_u r) ≡ true
    → cond on (clears_u (c ∷ r)) (has_u (c ∷ r)) ≡ true
in_front true g h c r k is =
    or_right (c ∈ "-" && has_u r) _ (and_from (c ∈ "imsRUu") (clears_u r) (any_letter g h c true k) is)
in_front false g h c r k is = by_cases k
    (λ l. or_right (c ∈ "u") _ (and_from (c ∈ "imsRU") (has_u r) l.0 is))
    (λ l. or_left (c ∈ "u") (c ∈ "imsRU" && has_u r) l.0)

-- the letter `u` is not cleared
u_kept : (on : Bool) (c : ℕ) (t : Bytes) → LeadsOn on t → c ∈ "u" ≡ true → clears_u (t ++ c ∷ []) ≡ false → on ≡ true
u_kept true c t leads u kept = refl
u_kept false c t leads u kept =
    absurd (false≢true (sym kept ∙ leads (c ∷ []) (or_left (c ∈ "u") (c ∈ "imsRU" && false) u)))

one_more : (on : Bool) (g h : Flags) (t : Bytes) (c : ℕ) → IsSet on g t → set_flag g c on ≡ Some h
    → IsSet on h (t ++ c ∷ [])
one_more on g h t c set is = record {
  leads = λ r e. rw (append_assoc t (c ∷ []) r) (set.leads (c ∷ r) (in_front on g h c r letter e));
  keeps = λ kept. by_cases letter
      (λ l. l.1 ∙ set.keeps (unless (clears_u t) _ (clears_more t (c ∷ [])) kept))
      (λ l. l.1 ∙ u_kept on c t set.leads l.0 kept);
} where
  letter : IsLetter g h c on
  letter = letter_sets g h c on is

-- a `-` after letters
turned : (g : Flags) (t : Bytes) → IsSet true g t → IsSet false g (t ++ 0x2D ∷ [])
turned g t set = record {
  leads = λ r e. rw (append_assoc t (0x2D ∷ []) r) (set.leads (0x2D ∷ r) (or_left (has_u r) _ e));
  keeps = λ kept. set.keeps (unless (clears_u t) _ (clears_more t (0x2D ∷ [])) kept);
}

set_by : (f g : Flags) (on : Bool) (t : Bytes) → Sets f on g t → f.unicode ≡ true → IsSet on g t
set_by f _ _ _ s.no_letter unicode = record { leads = λ r e. e; keeps = λ kept. unicode }
set_by f _ _ _ (s.flag on g h t c sets new is) unicode = one_more on g h t c (set_by f g on t sets unicode) is
set_by f _ _ _ (s.first_cleared g h t c sets new is) unicode =
    subst (IsSet false h) (append_assoc t (0x2D ∷ []) (c ∷ []))
    (one_more false g h (t ++ 0x2D ∷ []) c (turned g t (set_by f g true t sets unicode)) is)

-- flags after `(?` keep `u`
flags_keep : (f g : Flags) (on : Bool) (n : Bytes) → Sets f on g n → f.unicode ≡ true
    → clears_unicode (0x28 ∷ 0x3F ∷ n) ≡ false → g.unicode ≡ true
flags_keep f g on n sets unicode kept =
    (set_by f g on n sets unicode).keeps (or_parts (clears_u n) (clears_unicode (0x3F ∷ n)) kept).0

wide_scalar : (c : ℕ) (t : Bytes) → Wide c t → IsScalar c
wide_scalar _ _ (s.itself c is) = is.1
wide_scalar _ _ (s.by_number c t n is) = is.1

-- a byte of ASCII, both of whose cases are not looked at under `u`
byte_reads : (f : Flags) (c : ℕ) (re : Re) → f.unicode ≡ true → is_ascii c ≡ true → knows_cases f ≡ true
    → IsClass (folded f (only c)) re → ReadsCharacters re
byte_reads f c re unicode ascii cases class = ascii_reads (folded f (only c)) low re class where
  cased : f.case_insensitive ≡ false
  cased = let kept : not (true && f.case_insensitive) ≡ true = rw unicode at cases in not-true f.case_insensitive kept

  low : (b : ℕ) → b < 256 → folded f (only c) b ≡ true → b < 128
  low b small h = let same : only c b ≡ true = rw cased at h in grind (arith, same, ascii)

one_reads : (f : Flags) (set : Set) (re : Re) → f.unicode ≡ true → IsOneOf f.unicode set re → ReadsCharacters re
one_reads f set re unicode is t text u i j m =
    class_reads set re (subst (λ b. IsOneOf b set re) unicode is) t text i j m

sequence_of_reads : (res : List Re) → All ReadsCharacters res → ReadsCharacters (sequence_of res)
sequence_of_reads [] all = sequence_reads [] all
sequence_of_reads (a ∷ []) all = All-head ReadsCharacters a [] all
sequence_of_reads (a ∷ b ∷ rest) all = sequence_reads (a ∷ b ∷ rest) all

choice_of_reads : (res : List Re) → All ReadsCharacters res → ReadsCharacters (choice_of res)
choice_of_reads [] all = choice_reads [] all
choice_of_reads (a ∷ []) all = All-head ReadsCharacters a [] all
choice_of_reads (a ∷ b ∷ rest) all = choice_reads (a ∷ b ∷ rest) all

-- the flag still holds at the end of these, and all match UTF-8
abbrev AllRead : Flags → List Re → Type 0
AllRead g res = (g.unicode ≡ true) × All ReadsCharacters res

-- inside a group
inner_keeps : (front t : Bytes) → clears_unicode (front ++ t ++ codes ")") ≡ false → clears_unicode t ≡ false
inner_keeps front t k = (parts_keep front t (parts_keep (front ++ t) (codes ")") k).0).1

mutual
  atom_reads : (f : Flags) (re : Re) (t : Bytes) → Atom f re t → f.unicode ≡ true → clears_unicode t ≡ false
      → ReadsCharacters re
  atom_reads _ _ _ (s.plain f c re low cases is) u k = byte_reads f c re u (and_parts (is_ascii c) _ low).0 cases is
  atom_reads _ _ _ (s.character f c t wide cases) u k =
      literal_reads (encode_utf8 c) (IsUtf8-encode c (wide_scalar c t wide))
  atom_reads _ _ _ (s.dot f re is) u k = one_reads f _ re u is
  atom_reads _ _ _ (s.line_start f) u k = look_reads _
  atom_reads _ _ _ (s.line_end f) u k = look_reads _
  atom_reads _ _ _ (s.escaped f b re t e cases is) u k = one_reads f _ re u is
  atom_reads _ _ _ (s.class f c set re perl bytes is) u k = absurd (false≢true (sym bytes ∙ u))
  atom_reads _ _ _ (s.asserted f t look is ends) u k = look_reads look
  atom_reads _ _ _ (s.brackets f set re c t inside first cases is) u k = one_reads f _ re u is
  atom_reads _ _ _ (s.other_brackets f set re t inside cases is) u k = one_reads f _ re u is
  atom_reads _ _ _ (s.capture f g re t inside) u k =
      choice_reads_characters f g re t inside u (inner_keeps (codes "(") t k)
  atom_reads _ _ _ (s.named f g re n t name inside) u k =
      choice_reads_characters f g re t inside u (inner_keeps (codes "(?<" ++ n ++ codes ">") t k)
  atom_reads _ _ _ (s.named_p f g re n t name inside) u k =
      choice_reads_characters f g re t inside u (inner_keeps (codes "(?P<" ++ n ++ codes ">") t k)
  atom_reads _ _ _ (s.group f g h on re n t sets inside) u k =
      let before = codes "(?" ++ n ++ codes ":" in
      let front = parts_keep before t (parts_keep (before ++ t) (codes ")") k).0 in
      let flags = (parts_keep (codes "(?" ++ n) (codes ":") front.0).0 in
      choice_reads_characters g h re t inside (flags_keep f g on n sets u flags) front.1

  repeated_reads_characters : (f : Flags) (e : Bool) (re : Re) (t : Bytes) → Repeated f e re t → f.unicode ≡ true
      → clears_unicode t ≡ false → ReadsCharacters re
  repeated_reads_characters _ _ _ _ (s.once f re t atom) u k = atom_reads f re t atom u k
  repeated_reads_characters _ _ _ _ (s.greedy f e re t o min max r operator apart) u k =
      repeated_reads re (repeated_reads_characters f e re t r u (parts_keep t o k).0) min max (not f.swap_greed)
  repeated_reads_characters _ _ _ _ (s.lazy f e re t o min max r operator apart) u k =
      let both = (parts_keep (t ++ o) (codes "?") k).0 in
      repeated_reads re (repeated_reads_characters f e re t r u (parts_keep t o both).0) min max f.swap_greed

  items_read : (f g : Flags) (res : List Re) (t : Bytes) → Items f g res t → f.unicode ≡ true → clears_unicode t ≡ false
      → AllRead g res
  items_read _ _ _ _ (s.no_item f) u k = (u, All-nil ReadsCharacters)
  items_read _ _ _ _ (s.item f g e res re t v items last) u k =
      let kept = parts_keep t v k in
      let all = items_read f g res t items u kept.0 in
      (all.0, All-push ReadsCharacters res re all.1 (repeated_reads_characters g e re v last all.0 kept.1))
  items_read _ _ _ _ (s.setting f g h on res t n c items sets) u k =
      let front = (parts_keep (t ++ codes "(?" ++ c ∷ n) (codes ")") k).0 in
      let kept = parts_keep t (0x28 ∷ 0x3F ∷ c ∷ n) (rw (append_assoc t (codes "(?") (c ∷ n)) at front) in
      let all = items_read f g res t items u kept.0 in
      (flags_keep g h on (c ∷ n) sets all.0 kept.1, all.1)

  branches_read : (f g : Flags) (bs : List Re) (t : Bytes) → Branches f g bs t → f.unicode ≡ true
      → clears_unicode t ≡ false → AllRead g bs
  branches_read _ _ _ _ (s.no_branch f) u k = (u, All-nil ReadsCharacters)
  branches_read _ _ _ _ (s.branch f g h bs res t v branches items) u k =
      let kept = parts_keep t v (parts_keep (t ++ v) (codes "|") k).0 in
      let all = branches_read f g bs t branches u kept.0 in
      let last = items_read g h res v items all.0 kept.1 in
      (last.0, All-push ReadsCharacters bs (sequence_of res) all.1 (sequence_of_reads res last.1))

  pub choice_reads_characters : (f g : Flags) (re : Re) (t : Bytes) → Choice f g re t → f.unicode ≡ true
      → clears_unicode t ≡ false → ReadsCharacters re
  choice_reads_characters _ _ _ _ (s.branches f g h bs res t v branches items) u k =
      let kept = parts_keep t v k in
      let all = branches_read f g bs t branches u kept.0 in
      let last = items_read g h res v items all.0 kept.1 in
      choice_of_reads (bs ++ sequence_of res ∷ [])
      (All-push ReadsCharacters bs (sequence_of res) all.1 (sequence_of_reads res last.1))
