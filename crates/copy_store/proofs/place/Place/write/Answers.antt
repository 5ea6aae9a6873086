-- One more mark and its value are one more own write.
use Rattle.std.proofs.Common.{◌≡◌, true, ◌||◌, ltb, sym, ap, ◌∙◌, arith}
use Rattle.stores.specs.Model.{done, kept, written, own_count}
use Rattle.copy_store.specs.Places.{place_of}
use Rattle.copy_store.proofs.Writes.{write_taken, own_with, still_few}
use Rattle.copy_store.proofs.place.Place.write.Goals as goal

pub returns : goal.returns
returns c =
    let x = c.args.self.now in
    let j = c.args.object in
    let v = c.args.value in
    let told : true ≡ (written (place_of x) j || ltb (own_count (place_of x)) 8) = c.if-not-has_room.ensures.answer in
    let room = sym told in
    let taken = sym (write_taken x j v (omega arith) room) in
    let own = own_with x j v (omega arith) c.mark.new.self c.mark.ensures.after (omega arith) in
    record {
      answer = ap done taken;
      after = (λ i. record { snapshot = x.snapshot; own = own i; overtaken = (place_of x).overtaken }) ∙ ap (λ r. kept r (place_of x)) taken;
      few = still_few x j v (omega arith) c.mark.new.self c.mark.ensures.after _ room;
    }
