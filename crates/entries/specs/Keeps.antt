-- What it means that a function of the code keeps a promise: at every model of the machine, and wherever its code is, it meets the contract that
-- asks nothing of its caller and ensures the promise of the arguments, the result and what is left behind each reference.
use seplogic.Ra.Ura.{Ura}
use base.Logic.{SProp, emp, sep}
use prog.Model.{Model}
use prog.Routine.{Callee}
use prog.Wired.{Code, Wired}
use types.Logic.{Logic}
use contract.Monad.{fact}
use contract.Lifetimes.{Lfts}
use contract.Running.{Running}
use denote.Triple.Entry.{Args, Res}
use denote.Triple.Clauses.{Ended, AtExit, closing}
use denote.Triple.Spec.{Meets}

-- a promise at a signature: of the arguments, the result, and the parameters at exit
abbrev pub Promise : Ended → Type 1
Promise T = (κs : Lfts T.signature.lifetimes) → Args T.signature κs → Res T.signature κs → AtExit T κs → Type 0

-- the contract that asks for nothing and ensures an assertion of these: of what the function's name means, wherever its code is
abbrev pub Ensures : (T : Ended) → Code → Callee → (M : Type 1) → ((𝓤 : Ura M) (κs : Lfts T.signature.lifetimes) → Args T.signature κs → Res T.signature κs → AtExit T κs → SProp 𝓤) → Type 2
Ensures T c f M Q =
    (𝓤 : Ura M) (𝓛 : Logic 𝓤) (𝓜 : Model 𝓤 𝓛.H) (𝓡 : Running 𝓤 𝓛.H 𝓜)
    → Wired 𝓡.env c
    → Meets 𝓛 T.signature (𝓡.run (𝓡.env f))
    (closing 𝓛 T (λ κs a. record { ghost = Unit {0}; requires = λ g. emp 𝓤; ensures = λ g r e. Q 𝓤 κs a r e }))

-- a promise, and two of them
abbrev pub Keeps : (T : Ended) → Code → Callee → Promise T → Type 1 → Type 2
Keeps T c f P M = Ensures T c f M (λ 𝓤 κs a r e. fact 𝓤 (P κs a r e))

abbrev pub KeepsBoth : (T : Ended) → Code → Callee → Promise T → Promise T → Type 1 → Type 2
KeepsBoth T c f P Q M = Ensures T c f M (λ 𝓤 κs a r e. sep 𝓤 (fact 𝓤 (P κs a r e)) (fact 𝓤 (Q κs a r e)))

-- an entry: its name, its signature with what it leaves behind each reference, its code with that of all it calls, what is seen of
-- a call of it, and that it keeps the promise that this is right, for all arguments
pub record Entry (Sight : Type 0) (Right : Sight → Type 0) : Type 2 where
  pub name : Callee
  pub ended : Ended
  pub code : Code
  pub observed : (κs : Lfts ended.signature.lifetimes) → Args ended.signature κs → Res ended.signature κs → AtExit ended κs → Sight
  pub kept : (M : Type 1) → Keeps ended code name (λ κs a r e. Right (observed κs a r e)) M
