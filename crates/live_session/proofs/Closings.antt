-- How a conversation closes.
use Rattle.std.proofs.Common.{◌≡◌, ◌≢◌, ℕ, true, false, List, [], Option, None, Some, refl, inl, inr}
use Rattle.std.specs.Prelude.{IfSome, is_some}
use Rattle.wind_session.specs.declared.run.RunEnd.{RunEnd}
use Rattle.wind_session.specs.declared.run.RunEnd.TheVariants as ends
use Rattle.live_session.specs.Ending.{IsGoing}
use Rattle.live_session.specs.Session.{IsStatusOf, IsStop, Parts, status_at, status_of}
use Rattle.live_session.specs.declared.saving.Unsaved.{Unsaved}
use Rattle.live_session.specs.declared.saving.Unsaved.TheVariants as failures
use Rattle.live_session.specs.declared.status.Status.{Status}
use Rattle.live_session.specs.declared.status.Status.TheVariants as status

-- ---- the board's last run decides, or a file of the record that was not written
ended : (end : RunEnd) → IsStatusOf end (status_of end)
ended ends.Quiet = tt
ended ends.Limit = tt
ended ends.ReadFault = inl refl
ended ends.WriteFault = refl
ended ends.NoMemory = inl refl

pub decided : (failure : Option Unsaved) (end : RunEnd) → (failure ≢ None → IsGoing end) → IsStatusOf end (status_at failure end)
decided None end going = ended end
decided (Some failures.Failed) end going = going (λ e. cc)
decided (Some failures.NoMemory) end going = inr (going (λ e. cc))

-- if a file was not written, the session didn't end by itself; and only then its status says so
pub unended : (failure : Option Unsaved) (end : RunEnd) → failure ≢ None → status_at failure end ≢ status.Ended
unended None end h = absurd (h refl)
unended (Some failures.Failed) end h = λ e. cc
unended (Some failures.NoMemory) end h = λ e. cc

pub unrecorded : (failure : Option Unsaved) (end : RunEnd) → status_at failure end ≡ status.Unrecorded → failure ≡ Some failures.Failed
unrecorded None ends.Quiet e = cc
unrecorded None ends.Limit e = cc
unrecorded None ends.ReadFault e = cc
unrecorded None ends.WriteFault e = cc
unrecorded None ends.NoMemory e = cc
unrecorded (Some failures.Failed) end e = refl
unrecorded (Some failures.NoMemory) end e = cc

-- if the session can't go on, it stops at any position of its input
pub stop_early : (failure : Option Unsaved) (end : RunEnd) (left : Option (List ℕ)) (parts : Parts) → (IsGoing end × (failure ≡ None) → ⊥) → IsStop (status_at failure end) left parts
stop_early None ends.Quiet left parts stuck = absurd (stuck (tt, refl))
stop_early None ends.Limit left parts stuck = absurd (stuck (tt, refl))
stop_early None ends.ReadFault left parts stuck = tt
stop_early None ends.WriteFault left parts stuck = tt
stop_early None ends.NoMemory left parts stuck = tt
stop_early (Some failures.Failed) end left parts stuck = tt
stop_early (Some failures.NoMemory) end left parts stuck = tt

-- a status that tells of a fault
pub read_end : (failure : Option Unsaved) (end : RunEnd) → status_at failure end ≡ status.ReadFault → end ≡ ends.ReadFault
read_end None ends.Quiet e = cc
read_end None ends.Limit e = cc
read_end None ends.ReadFault e = refl
read_end None ends.WriteFault e = cc
read_end None ends.NoMemory e = cc
read_end (Some failures.Failed) end e = absurd (cc)
read_end (Some failures.NoMemory) end e = absurd (cc)

pub write_end : (failure : Option Unsaved) (end : RunEnd) → status_at failure end ≡ status.WriteFault → end ≡ ends.WriteFault
write_end None ends.Quiet e = cc
write_end None ends.Limit e = cc
write_end None ends.ReadFault e = cc
write_end None ends.WriteFault e = refl
write_end None ends.NoMemory e = cc
write_end (Some failures.Failed) end e = absurd (cc)
write_end (Some failures.NoMemory) end e = absurd (cc)

-- ---- the input decides
-- the board can go on
pub heard : (end : RunEnd) (s : Status) → IsGoing end → IsStatusOf ends.Limit s → IsStatusOf end s
heard end status.Ended going h = going
heard end status.Unrecorded going h = going
heard end status.ReadFault going h = inr going
heard end status.NoMemory going h = inr going
heard end status.WriteFault going h = absurd (cc)
heard end status.Usage going h = absurd h

-- it ended by itself only if no byte is left
pub stop_heard : (s : Status) (left : Option (List ℕ)) (parts : Parts) → s ≢ status.Unrecorded → (s ≡ status.Ended → IfSome left (λ bytes. bytes ≡ [])) → IsStop s left parts
stop_heard status.Ended left parts known over = inl (over refl)
stop_heard status.Unrecorded left parts known over = tt
stop_heard status.Usage left parts known over = tt
stop_heard status.ReadFault left parts known over = tt
stop_heard status.WriteFault left parts known over = tt
stop_heard status.NoMemory left parts known over = tt

-- ---- a file of the record that was not written
pub is_failure : (failure : Option Unsaved) → is_some failure ≡ true → failure ≢ None
is_failure None some = absurd (cc)
is_failure (Some failure) some = λ e. cc

pub no_failure : (failure : Option Unsaved) → is_some failure ≡ false → failure ≡ None
no_failure None some = refl
no_failure (Some failure) some = absurd (cc)

pub some_failure : (failure : Option Unsaved) (cause : Unsaved) → failure ≡ Some cause → failure ≢ None
some_failure None cause e = absurd (cc)
some_failure (Some failure) cause e = λ n. cc
