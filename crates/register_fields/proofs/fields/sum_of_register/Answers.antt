use Rattle.register_fields.proofs.fields.sum_of_register.Goals as goal

pub returns-in-ErrCfg : goal.returns-in-ErrCfg
returns-in-ErrCfg c = rw c.in-ErrCfg.is (c.sum_of_err_cfg.ensures c.args.shape.now)

pub returns-in-ErrInfo : goal.returns-in-ErrInfo
returns-in-ErrInfo c = rw c.in-ErrInfo.is (c.sum_of_err_info.ensures c.args.shape.now)

pub returns-in-ErrReqid : goal.returns-in-ErrReqid
returns-in-ErrReqid c = rw c.in-ErrReqid.is (c.sum_of_err_reqid.ensures c.args.shape.now)

pub returns-in-EntryCfg : goal.returns-in-EntryCfg
returns-in-EntryCfg c = rw c.in-EntryCfg.is (c.sum_of_entry_cfg.ensures c.args.shape.now c.in-EntryCfg.field-0)
