use Rattle.std.proofs.Common.{◌≡◌, ◌++◌, take}
use Rattle.cow_map.proofs.pages.share_pages.Given as goal

abbrev pub invariant-loop-page : goal.invariant-loop-page
invariant-loop-page g l = l.shares.items ≡ l.fn.shares.items ++ take l.page-index l.pages
