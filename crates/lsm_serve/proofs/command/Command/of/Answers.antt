use Rattle.lsm_serve.proofs.CommandNames.{is_not, none_of_all}
use Rattle.lsm_serve.proofs.command.Command.of.Goals as goal

pub returns-clause-none : goal.returns-clause-none
returns-clause-none c =
    none_of_all
    c.args.name.now
    (is_not _ _ c.is_called.ensures c.if-is_called.false)
    (is_not _ _ c.is_called-2.ensures c.if-is_called-2.false)
    (is_not _ _ c.is_called-3.ensures c.if-is_called-3.false)
    (is_not _ _ c.is_called-4.ensures c.if-is_called-4.false)
    (is_not _ _ c.is_called-5.ensures c.if-is_called-5.false)
    (is_not _ _ c.is_called-6.ensures c.if-is_called-6.false)
    (is_not _ _ c.is_called-7.ensures c.if-is_called-7.false)
    (is_not _ _ c.is_called-8.ensures c.if-is_called-8.false)
    (is_not _ _ c.is_called-9.ensures c.if-is_called-9.false)
    (is_not _ _ c.is_called-10.ensures c.if-is_called-10.false)
    (is_not _ _ c.is_called-11.ensures c.if-is_called-11.false)
    (is_not _ _ c.is_called-12.ensures c.if-is_called-12.false)
    (is_not _ _ c.is_called-13.ensures c.if-is_called-13.false)
    (is_not _ _ c.is_called-14.ensures c.if-is_called-14.false)
    (is_not _ _ c.is_called-15.ensures c.if-is_called-15.false)
