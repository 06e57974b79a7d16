-- Which cause comes first, from what the tests on the way answered.
use Rattle.std.proofs.Common.{ℕ, ◌≡◌, ◌≢◌, Bool, true, false, cond, Option, None, Some, Result, Ok, Err, is_some, sym, ap, ◌∙◌, subst}
use Rattle.std.specs.Option.{option_or}
use Rattle.std.specs.Result.{IfErr, OnErr, IsErrAnd}
use Rattle.lx_node.specs.OfKind.{is_of_kind}
use Rattle.lx_node.specs.declared.fields.Fields.{Fields}
use Rattle.lx_node.specs.declared.node.Node.{Node}
use Rattle.lx_node.specs.declared.cause.Cause.{Cause}
use Rattle.lx_node.specs.declared.cause.Cause.TheVariants.{UnknownNode, WrongKind, BadPlace}
use Rattle.lx_node.specs.declared.cause.Named.TheVariants.{Key}
use Rattle.lx_node.specs.declared.cause.Fault.{Fault}
use Rattle.lx_node.specs.declared.cause.Fault.TheVariants.{Memory}
use Rattle.lx_node.specs.declared.cause.Fault.TheVariants as fault
use Rattle.lx_trees.specs.Trees.{nil}
use Rattle.lx_forest.specs.Forest.{Forest}
use Rattle.lx_forest.specs.Lookups.{has, kind_of}
use Rattle.lx_links.specs.Faults.{unknown, wrong_fields, set_fault, not_below, detach_fault, RefusesEdit}
use Rattle.lx_links.proofs.Seen.{Seen}

pub memory_err : {T : Type 0} (r : Result T Fault) (P : Fault → Type 0) → IsErrAnd r (λ y. y ≡ Memory) → P Memory → IfErr r P
memory_err (Ok x) P h p = tt
memory_err (Err y) P h p = subst P (sym h) p

pub any_err : {T E P : Type 0} (r : Result T E) → P → OnErr r P
any_err (Ok x) p = tt
any_err (Err e) p = p

missing : (f : Forest) (k : ℕ) (rest : Option Cause) → has k f ≡ false → option_or (unknown f k) rest ≡ Some (UnknownNode (Key k))
missing f k rest e = ap (λ b. option_or (cond b None (Some (UnknownNode (Key k)))) rest) e

there : (f : Forest) (k : ℕ) (rest : Option Cause) → has k f ≡ true → option_or (unknown f k) rest ≡ rest
there f k rest e = ap (λ b. option_or (cond b None (Some (UnknownNode (Key k)))) rest) e

pub set_missing : (k : ℕ) (fields : Fields) (f : Forest) → has k f ≡ false → set_fault k fields f ≡ Some (UnknownNode (Key k))
set_missing k fields f e = missing f k (wrong_fields (kind_of f k) fields) e

set_seen : (k : ℕ) (fields : Fields) (f : Forest) (n : Node) (b : Bool) → Seen f k n → is_of_kind n.kind fields ≡ b
    → set_fault k fields f ≡ cond b None (Some (WrongKind n.kind))
set_seen k fields f n b s e =
    there f k (wrong_fields (kind_of f k) fields) s.has ∙ ap (λ kind. wrong_fields kind fields) s.kind ∙ ap (λ b. cond b None (Some (WrongKind n.kind))) e

pub set_wrong : (k : ℕ) (fields : Fields) (f : Forest) (n : Node) → Seen f k n → is_of_kind n.kind fields ≡ false
    → set_fault k fields f ≡ Some (WrongKind n.kind)
set_wrong k fields f n s e = set_seen k fields f n false s e

pub set_fine : (k : ℕ) (fields : Fields) (f : Forest) (n : Node) → Seen f k n → is_of_kind n.kind fields ≡ true → set_fault k fields f ≡ None
set_fine k fields f n s e = set_seen k fields f n true s e

pub detach_missing : (k : ℕ) (f : Forest) → has k f ≡ false → detach_fault k f ≡ Some (UnknownNode (Key k))
detach_missing k f e = missing f k (not_below f k) e

detach_seen : (k : ℕ) (f : Forest) (n : Node) (up : Option ℕ) → Seen f k n → n.parent ≡ up → detach_fault k f ≡ cond (is_some up) None (Some (BadPlace k))
detach_seen k f n up s e = there f k (not_below f k) s.has ∙ ap (λ o. cond (is_some o) None (Some (BadPlace k))) (sym s.parent ∙ e)

pub detach_top : (k : ℕ) (f : Forest) (n : Node) → Seen f k n → n.parent ≡ None → detach_fault k f ≡ Some (BadPlace k)
detach_top k f n s e = detach_seen k f n None s e

pub detach_fine : (k : ℕ) (f : Forest) (n : Node) (p : ℕ) → Seen f k n → n.parent ≡ Some p → detach_fault k f ≡ None
detach_fine k f n p s e = detach_seen k f n (Some p) s e

pub refused_by : (old new : Forest) (first : Option Cause) (e : Fault) (cause : Cause) → e ≡ fault.Cause cause → old ≢ nil → first ≡ Some cause → new ≡ old
    → RefusesEdit old first new e
refused_by old new first e cause is lives fault same = subst (RefusesEdit old first new) (sym is) (lives, fault, same)

-- where no cause holds, memory ran out
pub failed_by_memory : {T : Type 0} (r : Result T Fault) (old new : Forest) (first : Option Cause) → IsErrAnd r (λ y. y ≡ Memory) → first ≡ None → new ≡ nil
    → IfErr r (RefusesEdit old first new)
failed_by_memory r old new first h none gone = memory_err r (RefusesEdit old first new) h (λ lives. none, gone)
