use Rattle.determinize_below.proofs.Common.{and-false, and-true, lit<, ◌∙◌}
use Rattle.determinize_below.specs.Look.{has}
use Rattle.determinize_below.proofs.looks.CommonLooks.{meets_class}
use Rattle.determinize_below.proofs.look_laws.look_class_law.Goals as goal

pub returns : goal.returns
unfolding has
returns c = record {
  haystack = meets_class c.args.set 0x3 (lit< tt) ∙ simp (and-true, and-false);
  line = meets_class c.args.set 0x3C (lit< tt) ∙ simp (and-true, and-false);
  crlf = meets_class c.args.set 0x30 (lit< tt) ∙ simp (and-true, and-false);
  word = meets_class c.args.set 0x3FFC0 (lit< tt) ∙ simp (and-true, and-false);
}
