-- What a line about views leaves of a hub.
use Rattle.std.proofs.Common.{◌≡◌, refl, ◌+◌, ◌≤◌, [], ◌∷◌, ◌++◌, true, false, cond, Option, None, Some, arith}
use Rattle.lx_hub.specs.Hub.{Hub, attached, next_view, is_full}
use Rattle.lx_serving.specs.declared.asking.AboutViews.{AboutViews}
use Rattle.lx_serving.specs.declared.asking.AboutViews.TheVariants.{Attach, Deliver, Html, Detach}
use Rattle.lx_serving.specs.Replies.{hub_by, views_after}

-- its tip and the number of its batches stay, and one view more is made at most
pub record IsBesideStill (h g : Hub) : Type 0 where
  pub tip : g.tip ≡ h.tip
  pub commits : g.commits ≡ h.commits
  pub made : g.made ≤ h.made + 1

still : (h : Hub) → IsBesideStill h h
still h = record { tip = refl; commits = refl; made = omega arith }

still_attached : (h : Hub) → IsBesideStill h (attached h)
still_attached h =
    let more : Hub = record h { views = h.views ++ next_view h ∷ []; made = h.made + 1 } in
    elim (is_full h) as (λ b. IsBesideStill h (cond b h more)) [ true ↦ still h | false ↦ record { tip = refl; commits = refl; made = omega arith } ]

still_after : (about : AboutViews) (h : Hub) → IsBesideStill h (views_after about h)
still_after Attach h = still_attached h
still_after (Deliver view) h = record { tip = refl; commits = refl; made = omega arith }
still_after (Html view) h = still h
still_after (Detach view) h = record { tip = refl; commits = refl; made = omega arith }

still_by : (about : Option AboutViews) (h : Hub) → IsBesideStill h (hub_by about h)
still_by None h = still h
still_by (Some about) h = still_after about h
