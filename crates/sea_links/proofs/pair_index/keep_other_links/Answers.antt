use Rattle.std.proofs.Common.{◌≡◌, refl, rules}
use Rattle.std.proofs.lemmas.Map.Entries.{filter_from_retain_pairs}
use Rattle.sea_links.specs.Pairs.{is_of_other_link}
use Rattle.sea_links.proofs.pair_index.keep_other_links.Goals as goal

pub returns-clause-kept : goal.returns-clause-kept
returns-clause-kept c =
    filter_from_retain_pairs _ (λ f. f.0.now ≡ c.args.link) (λ one. is_of_other_link c.args.link one.1)
    (λ g k v b w g' is t. (search rules, search rules, search rules))
    _ c.args.pairs.now.entries c.retain.new.self.entries refl c.retain.ensures.filtered
