-- The lines that were answered so far: what is printed and what is still to come make the whole.
use Rattle.std.proofs.Common.{◌≡◌, ℕ, ◌+◌, ◌*◌, ◌≤◌, List, [], ◌∷◌, ◌++◌, length, drop, Some, None, Option, sym, refl, ap, ◌∙◌, subst, arith}
use Rattle.std.proofs.lemmas.List.{append_assoc, append-nil}
use Rattle.calls.specs.declared.call.Call.{Call}
use Rattle.tickets.specs.Boards.{Board}
use Rattle.lines.specs.Reading.{understood}
use Rattle.answers.specs.Buffers.{Wrote}
use Rattle.answers.specs.Printing.{printed}
use Rattle.answers.specs.declared.answer.Printed.{Printed}
use Rattle.answers.proofs.Writing.{one_write_after_another}
use Rattle.machine.specs.Machine.{Machine}
use Rattle.law.specs.History.{History}
use Rattle.law.specs.History.Event.{event}
use Rattle.law.specs.Opening.{board_step}
use Rattle.refinement.specs.Sound.{Sound}
use Rattle.refinement.specs.Worlds.{plain_of}
use Rattle.refinement.specs.Promise.{Ran}
use Rattle.refinement.proofs.Queues.{ran_more}
use Rattle.script.specs.Replies.{asks, calls_of, line_on, text}
use Rattle.script.specs.Lines.{Answers}
use Rattle.script.specs.Serving.{Served}

-- the calls that were made, and the board that they led to
pub record Made (lines left : List (List ℕ)) (start : Board) (K : ℕ) (m : Machine) : Type 0 where
  pub calls : List Call
  pub history : History
  pub rest : calls ++ calls_of left ≡ calls_of lines
  pub ran : Ran start K calls history m

-- the answers so far, which with those of the lines that are left are the whole text
pub record Followed (lines left : List (List ℕ)) (start : Board) (K number : ℕ) (first m : Machine) (bytes : List ℕ) : Type 0 where
  pub whole : bytes ++ text number left (plain_of m) ≡ text 1 lines (plain_of first)
  pub made : Made lines left start K m

-- of the lines, these are left; the first of them has this number
pub record SoFar (lines left : List (List ℕ)) (first : Machine) (buffer : List ℕ) (number at : ℕ) (filled : List ℕ) (m : Machine) : Type 0 where
  pub bytes : List ℕ
  pub few : number + length left ≤ 1025
  pub room : at + length left * 32 ≤ length buffer
  pub wrote : Wrote buffer 0 bytes filled at
  pub follows : (start : Board) (K : ℕ) → Ran start K [] [] first → Followed lines left start K number first m bytes

pub none_answered : (lines left : List (List ℕ)) (first : Machine) (buffer : List ℕ) (number : ℕ) → left ≡ lines → number ≡ 1 → length lines ≤ 1024 → length lines * 32 ≤ length buffer → SoFar lines left first buffer number 0 buffer first
none_answered lines left first buffer number e one few room =
    subst (λ (x : List (List ℕ) × ℕ). SoFar lines x.0 first buffer x.1 0 buffer first) (λ i. (sym e i, sym one i))
    (record {
      bytes = [];
      few = omega arith;
      room = omega arith;
      wrote = record { after = refl; ends = refl };
      follows = λ start K new. record { whole = refl; made = record { calls = []; history = []; rest = refl; ran = new } };
    })

-- ---- one more line

-- a line that is understood is one more call
ran_line : (n : ℕ) (c : Option Call) (start : Board) (K : ℕ) (calls : List Call) (history : History) (m next : Machine) → Ran start K calls history m → plain_of next ≡ (line_on n c (plain_of m)).1 → Sound next → (h : History) × Ran start K (calls ++ asks c) h next
ran_line n None start K calls history m next ran left sound =
    (history, subst (λ (cs : List Call). Ran start K cs history next) (sym (append-nil calls)) (record { answers = ran.answers; plain = left ∙ ran.plain; sound = sound }))
ran_line n (Some c) start K calls history m next ran left sound =
    (event c (board_step c (plain_of m)).0 ∷ history, ran_more start K calls history m c (board_step c (plain_of m)).0 next ran (record { answer = refl; after = left; sound = sound }))

module _ (lines : List (List ℕ)) (l : List ℕ) (ls : List (List ℕ)) (start : Board) (K : ℕ) (m next : Machine) where
  made_more : (n : ℕ) → Made lines (l ∷ ls) start K m → plain_of next ≡ (line_on n (understood l) (plain_of m)).1 → Sound next → Made lines ls start K next
  unfolding calls_of
  made_more n made left sound =
      let r = ran_line n (understood l) start K made.calls made.history m next made.ran left sound in
      record {
        calls = made.calls ++ asks (understood l);
        history = r.0;
        rest = append_assoc made.calls (asks (understood l)) (calls_of ls) ∙ made.rest;
        ran = r.1;
      }

  followed_more : (number : ℕ) (first : Machine) (bytes : List ℕ) (p : Printed) → Followed lines (l ∷ ls) start K number first m bytes → Answers number l m p next → Followed lines ls start K (number + 1) first next (bytes ++ printed p)
  unfolding text
  followed_more number first bytes p f a = record {
    whole =
        append_assoc bytes (printed p) (text (number + 1) ls (plain_of next))
        ∙ (λ i. bytes ++ (printed (a.printed i) ++ text (number + 1) ls (a.after i)))
        ∙ f.whole;
    made = made_more number f.made a.after a.sound;
  }

pub one_more_answered : {lines left ls : List (List ℕ)} {l : List ℕ} {first : Machine} {buffer : List ℕ} {number at : ℕ} {filled : List ℕ} {m : Machine} {here after : ℕ} {p q : Printed} {next : Machine} {filled' : List ℕ} {end : ℕ} →
    left ≡ l ∷ ls → SoFar lines left first buffer number at filled m → here ≡ number → after ≡ number + 1 →
    (Sound m → Answers here l m q next) → p ≡ q → Wrote filled at (printed p) filled' end → end ≤ at + 32 →
    SoFar lines ls first buffer after end filled' next
one_more_answered {lines} {left} {ls} {l} {first} {buffer} {number} {at} {filled} {m} {here} {after} {p} {q} {next} {filled'} {end} e far is then answers said wrote most =
    let so : SoFar lines (l ∷ ls) first buffer number at filled m = subst (λ (k : List (List ℕ)). SoFar lines k first buffer number at filled m) e far in
    subst (λ (n : ℕ). SoFar lines ls first buffer n end filled' next) (sym then)
    (record {
      bytes = so.bytes ++ printed p;
      few = omega (arith, so.few);
      room = omega (arith, so.room);
      wrote = one_write_after_another (omega (arith, so.room, so.wrote.ends)) so.wrote wrote;
      follows = λ start K new.
          let f = so.follows start K new in
          followed_more lines l ls start K m next number first so.bytes p f (subst (λ (x : Printed × ℕ). Answers x.1 l m x.0 next) (λ i. (sym said i, is i)) (answers f.made.ran.sound));
    })

-- ---- at the end

pub all_answered : {lines left : List (List ℕ)} {first : Machine} {buffer : List ℕ} {number at : ℕ} {filled : List ℕ} {m : Machine} → left ≡ [] → SoFar lines left first buffer number at filled m →
    (start : Board) (K : ℕ) → Ran start K [] [] first → Served lines start K first buffer at filled m
unfolding text calls_of
all_answered {lines} {left} {first} {buffer} {number} {at} {filled} {m} e far start K new =
    let here : SoFar lines [] first buffer number at filled m = subst (λ (k : List (List ℕ)). SoFar lines k first buffer number at filled m) e far in
    let f = here.follows start K new in
    let bytes : here.bytes ≡ text 1 lines (plain_of first) = sym (append-nil here.bytes) ∙ f.whole in
    let made = f.made in
    let calls : made.calls ≡ calls_of lines = sym (append-nil made.calls) ∙ made.rest in
    record {
      ends = omega (arith, here.wrote.ends, ap length bytes);
      bytes = here.wrote.after ∙ (λ i. bytes i ++ drop (sym here.wrote.ends i) buffer);
      ran = (made.history, subst (λ (cs : List Call). Ran start K cs made.history m) calls made.ran);
    }
