use Rattle.determinize_start.proofs.Common.{arith, NonWordByte, refl}
use Rattle.determinize_below.specs.Look.{meets, insert}
use Rattle.determinize_below.specs.Semantics.{is_word_byte}
use Rattle.determinize_start.specs.LookTables.{known_set, insert_where, start_have, start_from_word, start_half_crlf}
use Rattle.determinize_start.specs.LookTables.{have_after, from_word_after, half_crlf_after}
use Rattle.determinize_start.specs.StartRows.{NoLookBehind}
use Rattle.determinize_start.proofs.look_laws.start_rows_law.Goals as goal

nothing : NoLookBehind
unfolding meets known_set insert_where insert start_have start_from_word start_half_crlf
nothing reverse t NonWordByte = refl
nothing reverse t s = refl

-- all examples are true by computation
pub returns : goal.returns
unfolding is_word_byte meets known_set insert_where insert start_have start_from_word start_half_crlf
    have_after from_word_after half_crlf_after
returns c = record {
  forward = (refl, refl, refl, refl, refl, refl, refl, refl);
  reverse = (refl, refl, refl, refl, refl, refl, refl);
  bytes = (refl, refl, refl, refl, refl);
  no_custom = (λ h. grind (arith, h), λ h. grind (arith, h));
  look_behind = (refl, refl, refl, refl, refl, refl, refl, refl, refl, refl, refl);
  classes = (refl, refl, refl, refl, refl, refl, refl, refl);
  steps = (refl, refl, refl, refl, refl, refl, refl, refl);
  nothing = nothing;
}
