pub mod ShopRun
