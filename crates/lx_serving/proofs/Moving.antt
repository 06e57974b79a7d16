-- What a line does to what an editor has committed: nothing, or there is one commit more, whose operations lead from the view
-- before to the view after.
use Rattle.std.proofs.Common.{◌≡◌, ◌∙◌, ap, sym, subst, inl, inr, ◌⊎◌, ℕ, ◌+◌, Bool, List, Option, None, Some, Result, Ok, Err, arith}
use Rattle.serde_json.specs.View.{view}
use Rattle.lx_node.specs.declared.cause.Cause.{Cause}
use Rattle.lx_host.specs.Hosts.{HostTree, Leads}
use Rattle.lx_step.specs.declared.built_in.Turn.{Turn}
use Rattle.lx_step.specs.declared.line.Form.{Form}
use Rattle.lx_step.specs.declared.line.Form.TheVariants.{Update, Defer, Flush, Dispatch, Rule, Listener, Load, Show, Clear}
use Rattle.lx_step.specs.declared.line.Line.{Line}
use Rattle.lx_step.specs.declared.line.Tags.{Tags}
use Rattle.lx_step.specs.declared.listener.Listener.{Listener as ListenerOf}
use Rattle.lx_step.specs.Lines.{both_tags}
use Rattle.lx_step.specs.Spelled.{steps_of}
use Rattle.lx_forest.specs.Forest.{Forest}
use Rattle.lx_reconcile.specs.Allowed.{Shows}
use Rattle.lx_draft.specs.Working.{Working}
use Rattle.lx_reconcile.specs.Told.{Told}
use Rattle.lx_update.specs.Refusals.{Refused as RefusedAt}
use Rattle.lx_update.specs.declared.ending.Ending.{Ending}
use Rattle.lx_update.specs.declared.ending.Ending.TheVariants as ending
use Rattle.lx_editor.specs.declared.outcome.Outcome.{Outcome}
use Rattle.lx_editor.specs.declared.outcome.Outcome.TheVariants.{Committed, Gathered, Refused, Idle}
use Rattle.lx_editor.specs.Editor.{Editor}
use Rattle.lx_editor.specs.Gathering.{begun, gathered_by, pending_of, recording, with_nothing_pending, IsGatheredOf, IsDeferred}
use Rattle.lx_editor.specs.Updated.{Left, Settled, left_by, rested_by, IsTaken, IsMadeOf, IsUpdatedBy, IsFlushed}
use Rattle.lx_editor.specs.Registered.{left_by_rule, merging, unless_full, IsRegistered}
use Rattle.lx_editor.specs.Loaded.{left_by_load, IsLoaded}
use Rattle.lx_editor.specs.Turned.{IsTurnedBy}
use Rattle.lx_editor.specs.Dispatched.{answer_to, IsMadeOfAnswer, IsDispatched, IsListening}
use Rattle.lx_editor.specs.Follows.{at_moment, RepliesTo, RepliesToLine, Replies, AnswersLine}
use Rattle.lx_hub.specs.Hub.{Hub}
use Rattle.lx_serving.specs.Served.{AreLevel}
use Rattle.lx_serving.specs.Passing.{MayFollow}

-- Commits, tree, view and the last operations are those.
pub record HasStayed (n : ℕ) (f : Forest) (w : HostTree) (told : Option Told) (new : Editor) : Type 0 where
  pub commits : new.commits ≡ n
  pub tree : new.tree ≡ f
  pub view : new.view ≡ w
  pub last : new.last ≡ told

-- There is one commit more than so many, whose operations lead from that view to one that shows the tree.
pub record HasCommitted (n : ℕ) (w : HostTree) (new : Editor) : Type 0 where
  pub told : Told
  pub last : new.last ≡ Some told
  pub number : new.commits ≡ n + 1
  pub leads : Leads w told.ops new.view
  pub shows : Shows new.view new.tree

abbrev pub Moves : ℕ → Forest → HostTree → Option Told → Editor → Type 0
Moves n f w told new = HasStayed n f w told new ⊎ HasCommitted n w new

stays : (old new : Editor) → new ≡ old → Moves old.commits old.tree old.view old.last new
stays old new same = inl (record {
  commits = ap (λ (e : Editor). e.commits) same;
  tree = ap (λ (e : Editor). e.tree) same;
  view = ap (λ (e : Editor). e.view) same;
  last = ap (λ (e : Editor). e.last) same;
})

-- ---- what is made of a draft

moves_taken : (old : Editor) (tags : Tags) (moment : ℕ) (left : Left) (outcome : Outcome) (new : Editor) → IsTaken old (recording tags moment) left outcome new
    → Moves old.commits old.tree old.view old.last new
moves_taken old tags moment left (Committed commit ops) new p = inr (record {
  told = record { ops = ops; reads = p.reads };
  last = ap (λ (e : Editor). e.last) p.made;
  number = ap (λ (e : Editor). e.commits) p.made;
  leads = p.allowed.leads;
  shows = subst (λ (f : Forest). Shows new.view f) (sym (ap (λ (e : Editor). e.tree) p.made)) p.allowed.shows;
})
moves_taken old tags moment left (Refused cause step) new p = stays old new p.same
moves_taken old tags moment left Idle new p = stays (record old { rules = left.rules }) new p.1
moves_taken old tags moment left (Gathered count) new p = absurd p

moves_made : (left : Result Settled (Cause × Option ℕ)) (old : Editor) (tags : Tags) (moment : ℕ) (outcome : Outcome) (new : Editor)
    → IsMadeOf left old (recording tags moment) outcome new
    → Moves old.commits old.tree old.view old.last new
moves_made (Err refused) old tags moment outcome new p = stays old new p.1
moves_made (Ok settled) old tags moment outcome new p = moves_taken old tags moment settled.left outcome new p.1

moves_turned : (turn : Turn) (moment : ℕ) (old : Editor) (outcome : Outcome) (new : Editor) → IsTurnedBy turn moment old outcome new
    → Moves old.commits old.tree old.view old.last new
moves_turned turn moment old (Committed commit ops) new p = inr (record {
  told = record { ops = ops; reads = p.reads };
  last = ap (λ (e : Editor). e.last) p.made;
  number = ap (λ (e : Editor). e.commits) p.made;
  leads = p.allowed.leads;
  shows = subst (λ (f : Forest). Shows new.view f) (sym (ap (λ (e : Editor). e.tree) p.made)) p.allowed.shows;
})
moves_turned turn moment old (Refused cause step) new p = stays old new p.same
moves_turned turn moment old Idle new p = stays old new p.1
moves_turned turn moment old (Gathered count) new p = absurd p

moves_answered : (answer : Result Ending (Cause × Option ℕ)) (old : Editor) (tags : Tags) (moment : ℕ) (outcome : Outcome) (handled : Bool) (new : Editor)
    → IsMadeOfAnswer answer old (recording tags moment) outcome handled new → Moves old.commits old.tree old.view old.last new
moves_answered (Err refused) old tags moment outcome handled new p = stays old new p.1
moves_answered (Ok (ending.Left w was_handled)) old tags moment outcome handled new p = moves_made (rested_by old.rules w) old tags moment outcome new p.0
moves_answered (Ok (ending.Turned turn)) old tags moment outcome handled new p = moves_turned turn moment old outcome new p.0

moves_gathered : (left : Result Working RefusedAt) (old : Editor) (tags : Tags) (outcome : Outcome) (new : Editor) → IsGatheredOf left old tags outcome new
    → Moves old.commits old.tree old.view old.last new
moves_gathered (Err refused) old tags outcome new p = inl (record {
  commits = ap (λ (e : Editor). e.commits) p.1;
  tree = ap (λ (e : Editor). e.tree) p.1;
  view = ap (λ (e : Editor). e.view) p.1;
  last = ap (λ (e : Editor). e.last) p.1;
})
moves_gathered (Ok w) old tags outcome new p = inl (record {
  commits = ap (λ (e : Editor). e.commits) p.1;
  tree = ap (λ (e : Editor). e.tree) p.1;
  view = ap (λ (e : Editor). e.view) p.1;
  last = ap (λ (e : Editor). e.last) p.1;
})

moves_listening : (old : Editor) (listener : ListenerOf) (answer : Result ℕ Cause) (new : Editor) → IsListening old listener answer new
    → Moves old.commits old.tree old.view old.last new
moves_listening old listener (Ok number) new p = inl (record {
  commits = ap (λ (e : Editor). e.commits) p.2;
  tree = ap (λ (e : Editor). e.tree) p.2;
  view = ap (λ (e : Editor). e.view) p.2;
  last = ap (λ (e : Editor). e.last) p.2;
})
moves_listening old listener (Err cause) new p = stays old new p.2

-- ---- lines

moves_form : (old : Editor) (tags : Tags) (form : Form) (bytes : List ℕ) (new : Editor) → RepliesTo old tags form bytes new
    → Moves old.commits old.tree old.view old.last new
unfolding RepliesTo IsUpdatedBy IsFlushed IsDeferred IsDispatched IsRegistered IsLoaded
moves_form old tags (Update script) bytes new p =
    moves_made (left_by old.rules old.listeners (steps_of script) (begun old)) (with_nothing_pending old) (both_tags (pending_of old).tags tags) old.moment p.0
    new p.1
moves_form old tags (Defer script) bytes new p = moves_gathered (gathered_by old (steps_of script)) old tags p.0 new p.1
moves_form old tags Flush bytes new p =
    moves_made (rested_by old.rules (begun old)) (with_nothing_pending old) (both_tags (pending_of old).tags tags) old.moment p.0 new p.1
moves_form old tags (Dispatch command) bytes new p =
    moves_answered (answer_to command old) (with_nothing_pending old) (both_tags (pending_of old).tags tags) old.moment p.0 p.1 new p.2
moves_form old tags (Rule rule) bytes new p =
    moves_made (left_by_rule old rule) (unless_full old) (both_tags (pending_of old).tags merging) old.moment p.0 new p.1
moves_form old tags (Listener listener) bytes new p = moves_listening old listener p.0 new p.1
moves_form old tags (Load document) bytes new p = moves_made (left_by_load old (view document)) old tags old.moment p.0 new p.1.0
moves_form old tags (Show shown) bytes new p = stays old new p.1
moves_form old tags Clear bytes new p = inl (record {
  commits = ap (λ (e : Editor). e.commits) p.1;
  tree = ap (λ (e : Editor). e.tree) p.1;
  view = ap (λ (e : Editor). e.view) p.1;
  last = ap (λ (e : Editor). e.last) p.1;
})

moves_at : (at : Option ℕ) (old : Editor) (tags : Tags) (form : Form) (bytes : List ℕ) (new : Editor) → RepliesTo (at_moment at old) tags form bytes new
    → Moves old.commits old.tree old.view old.last new
moves_at None old tags form bytes new p = moves_form old tags form bytes new p
moves_at (Some moment) old tags form bytes new p = moves_form (at_moment (Some moment) old) tags form bytes new p

pub moves_line : (old : Editor) (line : Line) (bytes : List ℕ) (new : Editor) → RepliesToLine old line bytes new
    → Moves old.commits old.tree old.view old.last new
moves_line old line bytes new p = moves_at line.at old line.tags line.form bytes new p

moves_read : (old : Editor) (read : Result Line Cause) (bytes : List ℕ) (new : Editor) → Replies old read bytes new
    → Moves old.commits old.tree old.view old.last new
moves_read old (Ok line) bytes new p = moves_line old line bytes new p
moves_read old (Err cause) bytes new p = stays old new p.1

pub moves_answers : (old : Editor) (line bytes : List ℕ) (new : Editor) → AnswersLine old line bytes new → Moves old.commits old.tree old.view old.last new
unfolding AnswersLine
moves_answers old line bytes new p = moves_read old p.0 bytes new p.2

-- ---- a hub that was level with the editor

pub may_follow : (old new : Editor) (h : Hub) → AreLevel old h → Moves old.commits old.tree old.view old.last new → MayFollow old.commits new h
may_follow old new h level (inl stayed) = record {
  level = λ same. record { tip = level.tip ∙ sym stayed.view; commits = level.commits ∙ sym stayed.commits };
  ahead = λ other. absurd (other stayed.commits);
}
may_follow old new h level (inr committed) = record {
  level = λ same. absurd (omega (arith, committed.number));
  ahead = λ other. record {
    told = committed.told;
    last = committed.last;
    number = committed.number ∙ ap (λ n. n + 1) (sym level.commits);
    leads = subst (λ (t : HostTree). Leads t committed.told.ops new.view) (sym level.tip) committed.leads;
  };
}
