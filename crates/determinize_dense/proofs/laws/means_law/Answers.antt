use Rattle.determinize_dense.proofs.Listing.{each_text_is_listed}
use Rattle.determinize_dense.proofs.laws.means_law.Goals as goal

pub returns : goal.returns
returns c = each_text_is_listed
