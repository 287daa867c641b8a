pub mod Findings
pub mod LackedTables
pub mod RecordsMore
pub mod ReadWrites
pub mod ReadFreezes
pub mod DamagedLogs
pub mod ReadLogs
pub mod WholeStores
