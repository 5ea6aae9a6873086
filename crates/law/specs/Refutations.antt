-- What the law or the plain board shuts out: each a machine that one would send back.
use Rattle.std.specs.Prelude.{◌≡◌, ℕ, ◌<◌, ◌≤◌, true, false, List, [], ◌∷◌, length, replicate, ◌≢◌, slice_set}
use Rattle.calls.specs.declared.call.Call.{Call}
use Rattle.calls.specs.declared.call.Call.TheVariants.{Begin, Read, Write, Commit, Apply, Drain, Value}
use Rattle.tickets.specs.Boards.{Board}
use Rattle.law.specs.Numbers.{whole}
use Rattle.law.specs.History.{Answer, accepted, History}
use Rattle.law.specs.History.Answer.{done, told, read_only, aborts, refused}
use Rattle.law.specs.History.Event.{event}
use Rattle.law.specs.Plain.{Plain, just_opened}
use Rattle.law.specs.Steps.{step, run}
use Rattle.law.specs.Words.{Facts, facts, given, snapshot}
use Rattle.law.specs.Law.{Clash, HoldsBack, lacking, Right, Law}

abbrev pub zeros : Board
zeros = replicate 128 0

-- A scene on two replicas of zeros: transactions 1 and 2 begin at 0 and 1 and write object 0, and 1 is numbered and applied at its home
abbrev pub scene_calls : List Call
scene_calls = Begin 0 ∷ Begin 1 ∷ Write 1 0 5 ∷ Write 2 0 7 ∷ Commit 1 ∷ Apply 0 1 ∷ []

abbrev pub scene : History
scene =
    event (Apply 0 1) done ∷ event (Commit 1) (told 1) ∷ event (Write 2 0 7) done ∷ event (Write 1 0 5) done ∷
    event (Begin 1) (told 2) ∷ event (Begin 0) (told 1) ∷ []

-- then transaction 3 begins at 0, writes objects 0 and 1, and is numbered 2
abbrev pub sequel_calls : List Call
sequel_calls = Begin 0 ∷ Write 3 0 9 ∷ Write 3 1 4 ∷ Commit 3 ∷ []

abbrev pub sequel : History
sequel = event (Commit 3) (told 2) ∷ event (Write 3 1 4) done ∷ event (Write 3 0 9) done ∷ event (Begin 0) (told 3) ∷ scene

-- The scene is the plain board's, and the law holds of it where the stores have what was applied
pub record Scene : Type 0 where
  pub answers : (run scene_calls [] (just_opened zeros 2)).0 ≡ scene
  pub more : (run sequel_calls scene (run scene_calls [] (just_opened zeros 2)).1).0 ≡ sequel
  pub law : Law zeros 2 scene (slice_set zeros 0 5 ∷ zeros ∷ [])

pub record Refuted : Type 0 where
  -- an application that only marks its number
  pub marks_only : Law zeros 2 scene (zeros ∷ zeros ∷ []) → ⊥
  -- a middleware that answers from a board of its own and never calls the stores
  pub own_board : Law zeros 2 (event (Value 0 0) (told 5) ∷ scene) (zeros ∷ zeros ∷ []) → ⊥
  -- a commit that always aborts: the first one of any queue
  pub always_aborts : (start : Board) (K : ℕ) (h : Facts) (t m : ℕ) → given h ≡ 0 → Right start K h (event (Commit t) (aborts m)) → ⊥
  -- an abort without a cause
  pub causeless_abort : (start : Board) (K : ℕ) (h : Facts) (t m : ℕ) → (Clash h t m → ⊥) → Right start K h (event (Commit t) (aborts m)) → ⊥
  -- an abort by what the snapshot has, number s itself too
  pub seen_abort : (start : Board) (K : ℕ) (h : Facts) (t m : ℕ) → m ≤ snapshot h t → Right start K h (event (Commit t) (aborts m)) → ⊥
  -- a clash that is overlooked, here with a number that is not applied at home
  pub overlooked_clash : Right zeros 2 (facts scene) (event (Commit 2) (told 2)) → ⊥
  -- a commit with writes that is taken for a read-only one
  pub overlooked_writes : Right zeros 2 (facts scene) (event (Commit 2) read_only) → ⊥
  -- the wrong clash named, 2 in place of 1
  pub wrong_clash : Right zeros 2 (facts sequel) (event (Commit 2) (aborts 2)) → ⊥
  -- a read that always says 0: of an own write, and of a snapshot
  pub own_read_of_zero : Right zeros 2 (facts scene) (event (Read 2 0) (told 0)) → ⊥
  pub read_of_zero : Right zeros 2 (facts (event (Begin 0) (told 3) ∷ scene)) (event (Read 3 0) (told 0)) → ⊥
  -- a begin that always refuses: any replica of a board just opened takes one
  pub refused_begin : (start : Board) (K k n : ℕ) (vs : List ℕ) → k < K → (step (Begin k) (just_opened start K)).0 ≢ refused n vs
  -- a begin at a replica with holes
  pub begin_in_holes : (p : Plain) (k t : ℕ) → whole (p.applied k) (length p.sets) ≡ false → (step (Begin k) p).0 ≢ told t
  -- an application ahead of a lower number that clashes with it
  pub out_of_order : (start : Board) (K : ℕ) (h : Facts) (k n m : ℕ) (a : Answer) → HoldsBack h k n m → accepted a ≡ true → Right start K h (event (Apply k n) a) → ⊥
  -- a drain that reports m where fewer are lacking
  pub drain_of_m : (start : Board) (K : ℕ) (h : Facts) (k m : ℕ) → k < K → lacking h k < m → Right start K h (event (Drain k m) (told m)) → ⊥
  -- a drain that works once and reports 2: of the numbers 1 and 2 only 1 is played at replica 1
  pub drain_once : Law zeros 2 (event (Drain 1 2) (told 2) ∷ sequel) (slice_set zeros 0 5 ∷ slice_set zeros 0 5 ∷ []) → ⊥
  -- 31 before 256 numbers
  pub early_31 : (p : Plain) (t : ℕ) (vs : List ℕ) → length p.sets < 256 → (step (Commit t) p).0 ≢ refused 31 vs
