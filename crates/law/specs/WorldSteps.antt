-- What an opened middleware does at each call: its checks, and what it asks of the stores. A store's fault is an answer like any other.
use Rattle.std.specs.Prelude.{ℕ, zero, suc, ◌-◌, min, Bool, true, false, cond, List, [], ◌∷◌, length, ◌==◌, nat_le, nat_lt, slice_set}
use Rattle.calls.specs.declared.call.Call.{Call}
use Rattle.calls.specs.declared.call.Call.TheVariants.{Begin, Read, Write, Commit, GiveUp, Apply, Drain, Value, State, WriteSet, Applied}
use Rattle.tickets.specs.Boards.{value, top}
use Rattle.tickets.specs.WriteSets.{Pairs}
use Rattle.law.specs.Numbers.{up_to, count, lowest, whole}
use Rattle.law.specs.Writes.{is_empty}
use Rattle.law.specs.History.{Answer}
use Rattle.law.specs.History.Answer.{done, told, values, read_only, aborts, refused, fault}
use Rattle.law.specs.Plain.{numbered, pairs}
use Rattle.law.specs.Transactions.{clashes}
use Rattle.law.specs.Applications.{lacks, holds}
use Rattle.law.specs.Steps.{set_values, applied_values}
use Rattle.law.specs.Store.{Store, Done, Got, Owned, store_begin, store_read, store_write, store_own, store_commit, store_abort, store_play}
use Rattle.law.specs.Store.Done.{fine, failed}
use Rattle.law.specs.Store.Got.{got, bad}
use Rattle.law.specs.Store.Owned.{owns, ownless}
use Rattle.law.specs.Opening.{store_at}
use Rattle.law.specs.World.{Phase, World, entry, home_of, place_of, working, in_phase, with_store, with_entry, with_number, with_applied, picked, with_begin}

-- what a call comes to
abbrev pub Result : Type 0
Result = Answer × World

-- a check: where it fails, the refusal's number, and nothing is changed
unfoldable pub test : Bool → ℕ → World → Result → Result
test true n w r = r
test false n w r = (refused n [], w)

abbrev pub on_phase : Phase → World → Result → Result
on_phase Phase.live w r = r
on_phase (Phase.pending n) w r = (refused 29 [], w)
on_phase Phase.committed w r = (refused 29 [], w)
on_phase Phase.aborted w r = (refused 29 [], w)
on_phase Phase.given_up w r = (refused 29 [], w)

-- the checks 2 and 29
abbrev pub on_entry : ℕ → World → Result → Result
on_entry t w r = test (up_to (length w.entries) t) 2 w (on_phase (entry w t).phase w r)

-- a fault of the store k leaves what it did there
abbrev pub on_fine : Done → World → ℕ → (Store → Result) → Result
on_fine (fine σ) w k f = f σ
on_fine (failed n σ) w k f = (fault n, with_store w k σ)

abbrev pub world_begin : (List Bool → ℕ) → ℕ → World → Result
world_begin pick k w =
    test (nat_lt k (length w.bank)) 1 w
    (test (whole (w.applied k) (length w.sets)) 26 w
    (test (nat_lt (working k w.entries) 15) 27 w
    (test (nat_lt (length w.entries) 512) 28 w
    (on_fine (store_begin (store_at w.bank k) (picked pick (store_at w.bank k))) w k (λ σ. (told (suc (length w.entries)), with_begin pick w k σ))))))

abbrev pub read_answer : Got → World → Result
read_answer (got v) w = (told v, w)
read_answer (bad n) w = (fault n, w)

abbrev pub world_read : ℕ → ℕ → World → Result
world_read t j w = test (nat_lt j 128) 3 w (read_answer (store_read (home_of w t) (place_of w t) j) w)

-- 30 is the store's to find
abbrev pub write_answer : Done → World → ℕ → Result
write_answer (fine σ) w k = (done, with_store w k σ)
write_answer (failed n σ) w k = cond (n == 30) (refused 30 [], w) (fault n, with_store w k σ)

abbrev pub world_write : ℕ → ℕ → ℕ → World → Result
world_write t j v w =
    test (nat_lt j 128) 3 w (test (nat_le v (top j)) 5 w
    (write_answer (store_write (home_of w t) (place_of w t) j v) w (entry w t).home))

abbrev pub world_verdict : ℕ → ℕ → Pairs → World → Result
world_verdict zero t u w = test (nat_lt (length w.sets) 256) 31 w (told (suc (length w.sets)), with_number w t u)
world_verdict (suc m) t u w = on_fine (store_abort (home_of w t) (place_of w t)) w (entry w t).home (λ σ. (aborts (suc m), with_entry w t Phase.aborted σ))

abbrev pub on_owned : Owned → World → (Pairs → Result) → Result
on_owned (owns u) w f = f u
on_owned (ownless n) w f = (fault n, w)

-- u is what the store tells of the own writes
abbrev pub world_commit : ℕ → Pairs → World → Result
world_commit t u w =
    cond (is_empty u)
    (on_fine (store_commit (home_of w t) (place_of w t)) w (entry w t).home (λ σ. (read_only, with_entry w t Phase.committed σ)))
    (world_verdict (lowest (clashes w.sets (entry w t).s u) (length w.sets)) t u w)

abbrev pub world_give_up : ℕ → World → Result
world_give_up t w = on_fine (store_abort (home_of w t) (place_of w t)) w (entry w t).home (λ σ. (done, with_entry w t Phase.given_up σ))

-- an application went through, or a store stopped it
pub data Went : Type 0 where
  went : World → Went
  stuck : ℕ → World → Went

abbrev pub and_go : Done → World → ℕ → (Store → World) → Went
and_go (fine σ) w k f = went (f σ)
and_go (failed n σ) w k f = stuck n (with_store w k σ)

-- at home the transaction's own place is committed; elsewhere a place is begun, written and committed
abbrev pub world_play : (List Bool → ℕ) → ℕ → ℕ → World → Went
world_play pick k n w =
    cond (k == (numbered w.sets n).home)
    (and_go (store_commit (store_at w.bank k) (place_of w (numbered w.sets n).who)) w k (with_applied w k n (slice_set w.entries ((numbered w.sets n).who - 1) (in_phase Phase.committed (entry w (numbered w.sets n).who)))))
    (and_go (store_play (pairs w.sets n) (picked pick (store_at w.bank k)) (store_at w.bank k)) w k (with_applied w k n w.entries))

abbrev pub answered : Answer → Went → Result
answered a (went v) = (a, v)
answered a (stuck n v) = (fault n, v)

abbrev pub unless_holds : ℕ → World → Result → Result
unless_holds zero w r = r
unless_holds (suc m) w r = (refused 33 (suc m ∷ []), w)

abbrev pub world_apply : (List Bool → ℕ) → ℕ → ℕ → World → Result
world_apply pick k n w =
    test (nat_lt k (length w.bank)) 1 w
    (test (up_to (length w.sets) n) 4 w
    (test (lacks (w.applied k) n) 32 w
    (unless_holds (lowest (holds (w.applied k) w.sets n) (n - 1)) w (answered done (world_play pick k n w)))))

abbrev pub then_go : Went → (World → Went) → Went
then_go (went w) f = f w
then_go (stuck n w) f = stuck n w

abbrev pub on_lowest : ℕ → World → (ℕ → Went) → Went
on_lowest zero w f = went w
on_lowest (suc n) w f = f (suc n)

abbrev pub world_drained : (List Bool → ℕ) → ℕ → ℕ → World → Went
world_drained pick k zero w = went w
world_drained pick k (suc m) w = on_lowest (lowest (lacks (w.applied k)) (length w.sets)) w (λ n. then_go (world_play pick k n w) (world_drained pick k m))

abbrev pub world_drain : (List Bool → ℕ) → ℕ → ℕ → World → Result
world_drain pick k m w = test (nat_lt k (length w.bank)) 1 w (answered (told (min m (count (lacks (w.applied k)) (length w.sets)))) (world_drained pick k m w))

abbrev pub phase_values : Phase → List ℕ
phase_values Phase.live = 0 ∷ []
phase_values (Phase.pending n) = 1 ∷ n ∷ []
phase_values Phase.committed = 2 ∷ []
phase_values Phase.aborted = 3 ∷ []
phase_values Phase.given_up = 4 ∷ []

unfoldable pub world_step : (List Bool → ℕ) → Call → World → Result
world_step pick (Begin k) w = world_begin pick k w
world_step pick (Read t j) w = on_entry t w (world_read t j w)
world_step pick (Write t j v) w = on_entry t w (world_write t j v w)
world_step pick (Commit t) w = on_entry t w (on_owned (store_own (home_of w t) (place_of w t)) w (λ u. world_commit t u w))
world_step pick (GiveUp t) w = on_entry t w (world_give_up t w)
world_step pick (Apply k n) w = world_apply pick k n w
world_step pick (Drain k m) w = world_drain pick k m w
world_step pick (Value k j) w = test (nat_lt k (length w.bank)) 1 w (test (nat_lt j 128) 3 w (told (value (store_at w.bank k).board j), w))
world_step pick (State t) w = test (up_to (length w.entries) t) 2 w (values ((entry w t).s ∷ phase_values (entry w t).phase), w)
world_step pick (WriteSet n) w = test (up_to (length w.sets) n) 4 w (values (set_values (numbered w.sets n)), w)
world_step pick (Applied k) w = test (nat_lt k (length w.bank)) 1 w (values (applied_values (w.applied k) (length w.sets)), w)
