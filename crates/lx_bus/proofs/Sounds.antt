-- What holds of all listeners holds of those that are offered a command.
use Rattle.std.proofs.Common.{◌+◌, ℕ, zero, suc, List, All}
use Rattle.std.proofs.lemmas.List.Elements.{All-nil, All-append, All-filter}
use Rattle.lx_step.specs.declared.listener.Listener.{Listener}
use Rattle.lx_bus.specs.Offers.{is_at, at_priority, at_priorities, offers_left}

all_at_priorities : (P : Listener → Type 0) (more lowest : ℕ) (name : List ℕ) (ls : List Listener) → All P ls → All P (at_priorities more lowest name ls)
all_at_priorities P zero lowest name ls all = All-nil P
all_at_priorities P (suc more) lowest name ls all =
    All-append P (at_priority (lowest + more) name ls) (at_priorities more lowest name ls) (All-filter (is_at (lowest + more) name) P ls all)
    (all_at_priorities P more lowest name ls all)

pub all_offers_left : (P : Listener → Type 0) (more lowest : ℕ) (name : List ℕ) (ls : List Listener) → All P ls → All P (offers_left more lowest name ls ls)
all_offers_left P more lowest name ls all =
    All-append P (at_priority (lowest + more) name ls) (at_priorities more lowest name ls) (All-filter (is_at (lowest + more) name) P ls all)
    (all_at_priorities P more lowest name ls all)
