-- A line is understood exactly where it is the spelling of a call.
use Rattle.std.proofs.Common.{◌≡◌, ℕ, ◌^◌, ◌<◌, true, eqb, List, [], ◌∷◌, ◌++◌, length, get_or, Some, None, Option, sym, refl, ap, ◌∙◌, subst, arith}
use Rattle.std.specs.Option.{option_map}
use Rattle.std.specs.Char.{is_ascii_digit, is_ascii_alphabetic}
use Rattle.std.specs.List.{AllByRecursion}
use Rattle.std.proofs.lemmas.Bool.{cond_both, eqb-true}
use Rattle.calls.specs.declared.call.Call.{Call}
use Rattle.calls.specs.declared.call.Call.TheVariants.{Begin, Read, Write, Commit, GiveUp, Apply, Drain, Value, State, WriteSet, Applied}
use Rattle.lines.specs.Fronts.{front}
use Rattle.lines.specs.Reading.{letter_in, numbers_in, with_one, with_two, with_three, one, two, three, asked, understood}
use Rattle.lines.specs.Spelling.{spaced, numbers_of, letter_of, spelled, Narrow, Understands}
use Rattle.lines.specs.Tokens.{Piece, some_digits, token_in_front, taken_off, behind_token}
use Rattle.lines.proofs.Cutting.{nothing_is_left_over}
use Rattle.lines.proofs.Options.{none_is_not_some, same_in_some}
use Rattle.lines.proofs.Spaced.{spaced_numbers_are_read_back, only_spaced_numbers_are_read}

-- the line is the call's spelling
pub record Spelling (c : Call) (line : List ℕ) : Type 0 where
  pub is : spelled c ≡ Some line
  pub narrow : Narrow c

-- a letter l and k numbers make a call that has them
record Makes (call : List ℕ → Call) (l k : ℕ) : Type 0 where
  has_letter : (ns : List ℕ) → letter_of (call ns) ≡ Some (l ∷ [])
  has_numbers : (ns : List ℕ) → length ns ≡ k → numbers_of (call ns) ≡ ns

module _ (call : List ℕ → Call) (l k : ℕ) (makes : Makes call l k) (rest : List ℕ) where
  made : (o : Option (List ℕ)) (c : Call) → numbers_in k rest ≡ o → option_map call o ≡ Some c → Spelling c (l ∷ rest)
  made None c is e = none_is_not_some e
  made (Some ns) c is e =
      let s = only_spaced_numbers_are_read k rest ns is in
      let numbers = makes.has_numbers ns s.long in
      let spells : spelled (call ns) ≡ Some (l ∷ rest) = (λ i. option_map (λ x. x ++ spaced (numbers i)) (makes.has_letter ns i)) ∙ ap (λ r. Some (l ∷ r)) (sym s.is) in
      subst (λ x. Spelling x (l ∷ rest)) (same_in_some e) (record { is = spells; narrow = subst (AllByRecursion (λ n. n < 2 ^ 32)) (sym numbers) s.narrow })

  call_of_its_letter : (m : ℕ) (c : Call) → m ≡ l → option_map call (numbers_in k rest) ≡ Some c → Spelling c (m ∷ rest)
  call_of_its_letter m c e h = subst (λ x. Spelling c (x ∷ rest)) (sym e) (made (numbers_in k rest) c refl h)

-- lists of one, two and three numbers
of_one : (ns : List ℕ) → length ns ≡ 1 → get_or ns 0 0 ∷ [] ≡ ns
of_one [] e = absurd (omega arith)
of_one (a ∷ []) e = refl
of_one (a ∷ b ∷ ns) e = absurd (omega arith)

of_two : (ns : List ℕ) → length ns ≡ 2 → get_or ns 0 0 ∷ get_or ns 1 0 ∷ [] ≡ ns
of_two [] e = absurd (omega arith)
of_two (a ∷ ns) e = ap (λ l. a ∷ l) (of_one ns (omega arith))

of_three : (ns : List ℕ) → length ns ≡ 3 → get_or ns 0 0 ∷ get_or ns 1 0 ∷ get_or ns 2 0 ∷ [] ≡ ns
of_three [] e = absurd (omega arith)
of_three (a ∷ ns) e = ap (λ l. a ∷ l) (of_two ns (omega arith))

module _ (l : ℕ) (rest : List ℕ) (c : Call) where
  by_one : (call : ℕ → Call) (m : ℕ) → ((k : ℕ) → letter_of (call k) ≡ Some (m ∷ [])) → ((k : ℕ) → numbers_of (call k) ≡ k ∷ []) → eqb l m ≡ true → one call rest ≡ Some c → Spelling c (l ∷ rest)
  by_one call m its-letter its-numbers e = call_of_its_letter (with_one call) m 1 (record { has_letter = λ ns. its-letter _; has_numbers = λ ns one. its-numbers _ ∙ of_one ns one }) rest l c (eqb-true l m e)

  by_two : (call : ℕ → ℕ → Call) (m : ℕ) → ((k n : ℕ) → letter_of (call k n) ≡ Some (m ∷ [])) → ((k n : ℕ) → numbers_of (call k n) ≡ k ∷ n ∷ []) → eqb l m ≡ true → two call rest ≡ Some c → Spelling c (l ∷ rest)
  by_two call m its-letter its-numbers e = call_of_its_letter (with_two call) m 2 (record { has_letter = λ ns. its-letter _ _; has_numbers = λ ns two. its-numbers _ _ ∙ of_two ns two }) rest l c (eqb-true l m e)

  by_three : (call : ℕ → ℕ → ℕ → Call) (m : ℕ) → ((k n v : ℕ) → letter_of (call k n v) ≡ Some (m ∷ [])) → ((k n v : ℕ) → numbers_of (call k n v) ≡ k ∷ n ∷ v ∷ []) → eqb l m ≡ true → three call rest ≡ Some c → Spelling c (l ∷ rest)
  by_three call m its-letter its-numbers e = call_of_its_letter (with_three call) m 3 (record { has_letter = λ ns. its-letter _ _ _; has_numbers = λ ns three. its-numbers _ _ _ ∙ of_three ns three }) rest l c (eqb-true l m e)

  only_spellings_are_asked : asked (Some l) rest ≡ Some c → Spelling c (l ∷ rest)
  only_spellings_are_asked =
      let P : Option Call → Type 0 = λ o. o ≡ Some c → Spelling c (l ∷ rest) in
      cond_both (eqb l 66) _ _ P (by_one Begin 66 (λ _. refl) (λ _. refl))
      (λ _. cond_both (eqb l 82) _ _ P (by_two Read 82 (λ _ _. refl) (λ _ _. refl))
      (λ _. cond_both (eqb l 87) _ _ P (by_three Write 87 (λ _ _ _. refl) (λ _ _ _. refl))
      (λ _. cond_both (eqb l 67) _ _ P (by_one Commit 67 (λ _. refl) (λ _. refl))
      (λ _. cond_both (eqb l 71) _ _ P (by_one GiveUp 71 (λ _. refl) (λ _. refl))
      (λ _. cond_both (eqb l 65) _ _ P (by_two Apply 65 (λ _ _. refl) (λ _ _. refl))
      (λ _. cond_both (eqb l 68) _ _ P (by_two Drain 68 (λ _ _. refl) (λ _ _. refl))
      (λ _. cond_both (eqb l 86) _ _ P (by_two Value 86 (λ _ _. refl) (λ _ _. refl))
      (λ _ e. none_is_not_some e))))))))

-- the letter in front is one byte
digits_are_no_letter : (ds : List ℕ) (l : ℕ) → letter_in (some_digits ds) ≡ Some l → ⊥
digits_are_no_letter [] l e = none_is_not_some e
digits_are_no_letter (d ∷ ds) l e = none_is_not_some e

letter_byte : (b : ℕ) (bs : List ℕ) (l : ℕ) → letter_in (token_in_front (b ∷ bs)) ≡ Some l → taken_off (token_in_front (b ∷ bs)) ≡ l ∷ []
letter_byte b bs l =
    let P : Option Piece → Type 0 = λ o. letter_in o ≡ Some l → taken_off o ≡ l ∷ [] in
    cond_both (is_ascii_alphabetic b) _ _ P
    (λ _ e. ap (λ x. x ∷ []) (same_in_some e))
    (λ _. cond_both (eqb b 32) _ _ P
    (λ _ e. absurd (digits_are_no_letter (front is_ascii_digit bs) l e))
    (λ _ e. none_is_not_some e))

letter_is_taken_off : (line : List ℕ) (l : ℕ) → letter_in (token_in_front line) ≡ Some l → taken_off (token_in_front line) ≡ l ∷ []
letter_is_taken_off [] l e = none_is_not_some e
letter_is_taken_off (b ∷ bs) l e = letter_byte b bs l e

asked_by_a_letter : (line : List ℕ) (c : Call) (o : Option ℕ) → letter_in (token_in_front line) ≡ o → asked o (behind_token line) ≡ Some c → Spelling c line
asked_by_a_letter line c None is e = none_is_not_some e
asked_by_a_letter line c (Some l) is e =
    let whole = nothing_is_left_over line ∙ ap (λ t. t ++ behind_token line) (letter_is_taken_off line l is) in
    subst (Spelling c) (sym whole) (only_spellings_are_asked l (behind_token line) c e)

only_spellings_are_understood : (line : List ℕ) (c : Call) → understood line ≡ Some c → Spelling c line
unfolding understood
only_spellings_are_understood line c e = asked_by_a_letter line c _ refl e

-- the other way round: what a call spells is understood as that call
module _ (line : List ℕ) where
  spellings_are_understood : (c : Call) → Narrow c → spelled c ≡ Some line → understood line ≡ Some c
  unfolding understood
  spellings_are_understood (Begin k) n e = ap understood (sym (same_in_some e)) ∙ ap (option_map (with_one Begin)) (spaced_numbers_are_read_back (k ∷ []) n)
  spellings_are_understood (Read t j) n e = ap understood (sym (same_in_some e)) ∙ ap (option_map (with_two Read)) (spaced_numbers_are_read_back (t ∷ j ∷ []) n)
  spellings_are_understood (Write t j v) n e = ap understood (sym (same_in_some e)) ∙ ap (option_map (with_three Write)) (spaced_numbers_are_read_back (t ∷ j ∷ v ∷ []) n)
  spellings_are_understood (Commit t) n e = ap understood (sym (same_in_some e)) ∙ ap (option_map (with_one Commit)) (spaced_numbers_are_read_back (t ∷ []) n)
  spellings_are_understood (GiveUp t) n e = ap understood (sym (same_in_some e)) ∙ ap (option_map (with_one GiveUp)) (spaced_numbers_are_read_back (t ∷ []) n)
  spellings_are_understood (Apply k n) narrow e = ap understood (sym (same_in_some e)) ∙ ap (option_map (with_two Apply)) (spaced_numbers_are_read_back (k ∷ n ∷ []) narrow)
  spellings_are_understood (Drain k m) n e = ap understood (sym (same_in_some e)) ∙ ap (option_map (with_two Drain)) (spaced_numbers_are_read_back (k ∷ m ∷ []) n)
  spellings_are_understood (Value k j) n e = ap understood (sym (same_in_some e)) ∙ ap (option_map (with_two Value)) (spaced_numbers_are_read_back (k ∷ j ∷ []) n)
  spellings_are_understood (State t) n e = none_is_not_some e
  spellings_are_understood (WriteSet m) n e = none_is_not_some e
  spellings_are_understood (Applied k) n e = none_is_not_some e

pub every_line_is_understood_as_spelled : (line : List ℕ) → Understands line (understood line)
every_line_is_understood_as_spelled line = record {
  only = λ c e. let s = only_spellings_are_understood line c e in (s.is, s.narrow);
  each = spellings_are_understood line;
}

-- a line whose letter and rest are read one after the other
pub read_by_its_letter : {line left rest : List ℕ} {l : Option ℕ} {r : Option Call} → left ≡ line → l ≡ letter_in (token_in_front left) → rest ≡ behind_token left → r ≡ asked l rest → (r ≡ understood line) × Understands line r
unfolding understood
read_by_its_letter {line} {left} {rest} {l} {r} whole is on e =
    let same : r ≡ understood line = e ∙ (λ i. asked (is i) (on i)) ∙ ap understood whole in
    (same, subst (Understands line) (sym same) (every_line_is_understood_as_spelled line))
