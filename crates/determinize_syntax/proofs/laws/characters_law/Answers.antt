use Rattle.determinize_syntax.proofs.Common.{refl}
use Rattle.determinize_syntax.proofs.Unicode.{choice_reads_characters}
use Rattle.determinize_syntax.proofs.laws.characters_law.Goals as goal

pub returns : goal.returns
returns c = record {
  characters = λ flags re text spelled unicode kept.
      choice_reads_characters flags spelled.0 re text spelled.1 unicode kept;
  kept = refl;
  cleared = refl;
}
