-- What follows from what is said of an answer.
use Rattle.std.proofs.Common.{Result, Ok, Err}
use Rattle.std.specs.Result.{IfOk, OnOk, OnErr}

pub told : {X E : Type 0} (r : Result X E) (P Q : X → Type 0) → IfOk r P → ((x : X) → P x → Q x) → IfOk r Q
told (Ok x) P Q p then = then x p
told (Err e) P Q p then = tt

pub told_ok : {X E : Type 0} (r : Result X E) (P Q : Type 0) → OnOk r P → (P → Q) → OnOk r Q
told_ok (Ok x) P Q p then = then p
told_ok (Err e) P Q p then = tt

pub told_without : {X E : Type 0} (r : Result X E) (P Q : Type 0) → OnErr r P → (P → Q) → OnErr r Q
told_without (Ok x) P Q p then = tt
told_without (Err e) P Q p then = then p

-- where one call says two things of an answer, both are said of it
pub both_told : {X E : Type 0} (r : Result X E) (P Q : X → Type 0) (C : Type 0) → IfOk r P → OnOk r C → ((x : X) → P x → C → Q x) → IfOk r Q
both_told (Ok x) P Q C p c then = then x p c
both_told (Err e) P Q C p c then = tt

-- what follows from what is said of any answer is said
pub told_of : {X E : Type 0} (r : Result X E) (P : X → Type 0) (C : Type 0) → IfOk r P → ((x : X) → P x → C) → OnOk r C
told_of (Ok x) P C p then = then x p
told_of (Err e) P C p then = tt
