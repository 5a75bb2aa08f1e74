use Rattle.std.proofs.Common.{[], ◌∷◌, None, false, refl}
use Rattle.determinize_below.specs.Semantics.{between}
use Rattle.determinize_pattern.proofs.characters.Boundaries.{class_reads}
use Rattle.determinize_pattern.proofs.characters.Preferred.{char_preferred}
use Rattle.determinize_pattern.proofs.characters.Utf8.{accent, one_char}
use Rattle.determinize_pattern.specs.Classes.{is_chosen}
use Rattle.determinize_pattern.proofs.laws.chars_law.Goals as goal

pub returns : goal.returns
returns c = record {
  accent = λ t re class.
      let f = is_chosen ((0xE9, 0xE9) ∷ []) false in
      (class t (between None (0xC3 ∷ 0xA9 ∷ []) None) 0 2).1 (accent f refl);
  once = λ test re class t text i j k m n.
      one_char test text.bytes i j k ((class t text i j).0 m) ((class t text i k).0 n);
  preferred = char_preferred;
  utf8 = class_reads;
}
