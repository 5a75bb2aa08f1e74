use Rattle.std.proofs.Common.{◌∙◌, ap, bytes_eq}
use Rattle.std.specs.List.{list_any}
use Rattle.example_walks.specs.Names.{is_name}
use Rattle.example_walks.proofs.Named.{any_map}
use Rattle.example_walks.proofs.examples.named.Goals as goal

pub returns : goal.returns
unfolding is_name
returns c = c.find.ensures ∙ any_map (λ text. bytes_eq text c.args.name.now) (λ name. name.now) c.names.result.now
    ∙ ap (list_any (λ text. bytes_eq text c.args.name.now)) c.names.ensures
