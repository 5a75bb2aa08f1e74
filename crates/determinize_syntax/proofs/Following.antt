-- What a derivation of a text says of what follows at its places.
-- Main statements: choice_follows, text_follows.
-- Used by: the proofs that the parser rejects no pattern.
-- Idea: a rule that appends at the right is, before a text that follows, a step to the right.
use Rattle.determinize_syntax.proofs.Common.{◌++◌, ◌∈◌, ◌∷◌, ◌≡◌, AfterOperator, Atom, Bool, Branches, Bytes, Choice}
use Rattle.determinize_syntax.proofs.Common.{Flags, FromAtom, FromItem, FromOperator, Inner, List, Operator, Option, Re}
use Rattle.determinize_syntax.proofs.Common.{Repeated, Some, SpellsUnder, [], ap, append-nil, append_assoc, arith}
use Rattle.determinize_syntax.proofs.Common.{by_cases, codes, false, inl, inr, not, refl, slice_get, some_injective}
use Rattle.determinize_syntax.proofs.Common.{subst, sym, true, ℕ}
use Rattle.determinize_syntax.specs.Spells.{Items}
use Rattle.determinize_syntax.proofs.Escapes.{asserted_at, class_at, escaped_at, wide_at}
use Rattle.determinize_syntax.proofs.Inner.{inside_follows}
use Rattle.determinize_syntax.specs.Spells as s
use Rattle.determinize_syntax.specs.Private.Following as to
use Rattle.determinize_syntax.specs.declared.escape.Escape.TheVariants as escape

operator_follows : (k : List Flags) (f : Flags) (e : Bool) (min : ℕ) (max : Option ℕ) (v w : Bytes) → Operator min max v
    → (e ≡ true → v ≡ codes "?" → ⊥) → AfterOperator k f w → FromOperator k f e (v ++ w)
operator_follows k f e _ _ _ w s.star other h = to.signed k f e 0x2A w refl (λ is q. absurd (omega (arith, q))) h
operator_follows k f e _ _ _ w s.plus other h = to.signed k f e 0x2B w refl (λ is q. absurd (omega (arith, q))) h
operator_follows k f e _ _ _ w s.query other h = to.signed k f e 0x3F w refl (λ is q. other is refl) h
operator_follows k f e min max _ w (s.exactly n t is small) other h =
    to.counts k f e _ w (min, max, (t ++ codes "}", refl, s.exactly n t is small)) h
operator_follows k f e min max _ w (s.at_least n t is small) other h =
    to.counts k f e _ w (min, max, (t ++ codes ",}", refl, s.at_least n t is small)) h
operator_follows k f e min max _ w (s.between n m t u is_n is_m le small) other h =
    to.counts k f e _ w (min, max, (t ++ codes "," ++ u ++ codes "}", refl, s.between n m t u is_n is_m le small)) h

no_caret : (c : ℕ) (u : Bytes) → not (c ∈ "^") ≡ true → slice_get (c ∷ u) 0 ≡ Some 0x5E → ⊥
no_caret c u other at =
    let same : c ≡ 0x5E = some_injective c 0x5E at in let never : false ≡ true = rw same at other in absurd (cc)

mutual
  atom_follows : (f : Flags) (re : Re) (t : Bytes) → Atom f re t → (k : List Flags) (w : Bytes)
      → FromOperator k f false w → FromAtom k f (t ++ w)
  atom_follows f re t (s.plain _ c _ is cases _) k w h = to.plain k f c w is cases h
  atom_follows f re t (s.character _ c _ is cases) k w h =
      by_cases (wide_at c t is w) (λ x. rw x.2 (to.wide k f c x.0 x.1 w x.3 cases h))
      (λ x. rw x.1 (to.escaped k f (escape.Wide c) x.0 w x.2 cases h))
  atom_follows f re t (s.dot _ _ _) k w h = to.sign k f 0x2E w refl h
  atom_follows f re t (s.line_start _) k w h = to.sign k f 0x5E w refl h
  atom_follows f re t (s.line_end _) k w h = to.sign k f 0x24 w refl h
  atom_follows f re t (s.escaped _ b _ _ is cases _) k w h =
      let x = escaped_at b t is w in rw x.1 (to.escaped k f (escape.Byte b) x.0 w x.2 cases h)
  atom_follows f re t (s.class _ c set _ is bytes _) k w h =
      let x = class_at c set is w in to.escaped k f (escape.Class x.0 x.1) (c ∷ w) w x.2 (ap not bytes) h
  atom_follows f re t (s.asserted _ u look is available) k w h =
      to.escaped k f (escape.Look look) (u ++ w) w (asserted_at look u is w) available h
  atom_follows f re t (s.brackets _ set _ c u is other cases _) k w h =
      to.brackets k f _ w (inr (
        no_caret c ((u ++ codes "]") ++ w) other,
        subst (Inner f w) (sym (append_assoc (c ∷ u) (codes "]") w)) (inside_follows f set (c ∷ u) w is),
      )) cases h
  atom_follows f re t (s.other_brackets _ set _ u is cases _) k w h =
      to.brackets k f _ w (inl (
        _,
        refl,
        subst (Inner f w) (sym (append_assoc u (codes "]") w)) (inside_follows f set u w is),
      )) cases h
  atom_follows f re t (s.capture _ g _ u inner) k w h =
      simp append_assoc (to.group k f f _ _ (to.capture (u ++ 0x29 ∷ w))
      (choice_follows f g re u inner (f ∷ k) (0x29 ∷ w) (to.closed k f g w h)))
  atom_follows f re t (s.named _ g _ n u is inner) k w h =
      simp append_assoc (to.group k f f _ _ (to.named n (u ++ 0x29 ∷ w) is)
      (choice_follows f g re u inner (f ∷ k) (0x29 ∷ w) (to.closed k f g w h)))
  atom_follows f re t (s.named_p _ g _ n u is inner) k w h =
      simp append_assoc (to.group k f f _ _ (to.named_p n (u ++ 0x29 ∷ w) is)
      (choice_follows f g re u inner (f ∷ k) (0x29 ∷ w) (to.closed k f g w h)))
  atom_follows f re t (s.group _ g i on _ n u sets inner) k w h =
      simp append_assoc (to.group k f g _ _ (to.group g on n (u ++ 0x29 ∷ w) sets)
      (choice_follows g i re u inner (f ∷ k) (0x29 ∷ w) (to.closed k f i w h)))

  repeated_follows : (f : Flags) (e : Bool) (re : Re) (t : Bytes) → Repeated f e re t → (k : List Flags) (w : Bytes)
      → FromOperator k f e w → FromAtom k f (t ++ w)
  repeated_follows f e re t (s.once _ _ _ atom) k w h = atom_follows f re t atom k w h
  repeated_follows f e re t (s.greedy _ d sub u v min max before is other) k w h =
      simp append_assoc (repeated_follows f d sub u before k (v ++ w)
      (operator_follows k f d min max v w is other (to.greedy k f w h)))
  repeated_follows f e re t (s.lazy _ d sub u v min max before is other) k w h =
      simp append_assoc (repeated_follows f d sub u before k (v ++ 0x3F ∷ w)
      (operator_follows k f d min max v (0x3F ∷ w) is other (to.lazy k f w h)))

  items_follow : (f g : Flags) (res : List Re) (t : Bytes) → Items f g res t → (k : List Flags) (w : Bytes)
      → FromItem k g w → FromItem k f (t ++ w)
  items_follow f g res t (s.no_item _) k w h = h
  items_follow f g res t (s.item _ _ e before re u v items last) k w h =
      simp append_assoc (items_follow f g before u items k (v ++ w) (to.atom k g (v ++ w)
      (repeated_follows g e re v last k w (to.none k g e w h))))
  items_follow f g res t (s.setting _ i _ on _ u n c items sets) k w h =
      simp append_assoc (items_follow f i res u items k _ (to.set k i g on c n w sets h))

  branches_follow : (f g : Flags) (res : List Re) (t : Bytes) → Branches f g res t → (k : List Flags) (w : Bytes)
      → FromItem k g w → FromItem k f (t ++ w)
  branches_follow f g res t (s.no_branch _) k w h = h
  branches_follow f g res t (s.branch _ i _ bs items u v before last) k w h =
      simp append_assoc (branches_follow f i bs u before k (v ++ 0x7C ∷ w)
      (items_follow i g items v last k (0x7C ∷ w) (to.bar k g w h)))

  pub choice_follows : (f g : Flags) (re : Re) (t : Bytes) → Choice f g re t → (k : List Flags) (w : Bytes)
      → FromItem k g w → FromItem k f (t ++ w)
  choice_follows f g re t (s.branches _ i _ bs res u v before last) k w h =
      simp append_assoc (branches_follow f i bs u before k (v ++ w) (items_follow i g res v last k w h))

pub text_follows : (f : Flags) (re : Re) (text : Bytes) → SpellsUnder f re text → FromItem [] f text
text_follows f re text h =
    subst (FromItem [] f) (append-nil text) (choice_follows f h.0 re text h.1 [] [] (to.ended h.0))
