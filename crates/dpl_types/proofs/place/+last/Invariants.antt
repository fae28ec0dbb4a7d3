use Rattle.std.proofs.Common.{◌≡◌, drop}
use Rattle.dpl_tree.specs.View.{links_of}
use Rattle.dpl_rules.specs.Places.{last_of_links as last_of_links_tree}
use Rattle.dpl_types.proofs.place.+last.Given as goal

-- what is left ends where all end
abbrev pub invariant-last_of_links-loop-link : goal.invariant-last_of_links-loop-link
invariant-last_of_links-loop-link l = last_of_links_tree l.last (links_of (drop l.link-index l.links)) ≡ last_of_links_tree l.initial.last (links_of l.links)
