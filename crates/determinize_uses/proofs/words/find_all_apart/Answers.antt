use Rattle.std.proofs.Common.{◌≡◌, rules}
use Rattle.determinize_find.specs.Streams.{whole}
use Rattle.determinize_uses.proofs.words.find_all_apart.Goals as goal

pub returns : goal.returns
returns c =
    let asked : c.new.result ≡ whole c.args.text.now = search rules in
    record { all = rw (c.matcher-matcher.ensures.value, asked) at c.find_all.ensures.all }
