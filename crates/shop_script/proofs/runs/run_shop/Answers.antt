use Rattle.shop_script.proofs.ShopRun.{stores_of, empty_shop_is_four_zeros, shop_runs, never_unopened}
use Rattle.shop_script.proofs.runs.run_shop.Goals as goal

pub returns-in-Ok-run_script : goal.returns-in-Ok-run_script
returns-in-Ok-run_script c =
    let b = c.in-Ok.bank in
    record { law = shop_runs (stores_of b) (empty_shop_is_four_zeros b c.in-Ok.ensures.answer) _ _ _ _ _ c.in-Ok-run_script.ensures.law }

pub unreachable-requires : goal.unreachable-requires
unreachable-requires c =
    let x = c.in-Err-NotOpened in
    never_unopened c.in-Ok.bank c.in-Ok.ensures.answer _ _ _ x.field-0 x.field-0-0 x.field-0-1 x.field-0-is x.ensures.law
