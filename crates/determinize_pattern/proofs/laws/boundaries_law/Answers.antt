use Rattle.determinize_pattern.proofs.characters.Ascii.{ascii_reads}
use Rattle.determinize_pattern.proofs.characters.Boundaries.{choice_reads, class_reads, end_boundary, literal_reads, look_reads, repeated_reads, sequence_reads, start_boundary}
use Rattle.determinize_pattern.proofs.laws.boundaries_law.Goals as goal

pub returns : goal.returns
returns c = record {
  class = λ test re class t text u. class_reads test re class t text;
  ascii = λ test re class low. ascii_reads test low re class;
  literal = literal_reads;
  look = look_reads;
  sequence = sequence_reads;
  choice = choice_reads;
  repeated = repeated_reads;
  end = end_boundary;
  start = start_boundary;
}
